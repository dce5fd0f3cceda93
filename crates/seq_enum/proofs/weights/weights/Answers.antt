use Rattle.std.proofs.Common.{◌≡◌, ◌∙◌, ◌+◌, ◌≤◌, ap, sym, arith, length, map, Some, length-append}
use Rattle.std.proofs.lemmas.List.{length-map}
use Rattle.std.proofs.lemmas.List.Elements.{All-same}
use Rattle.seq_enum.specs.Alphabet.{alphabet, words}
use Rattle.seq_enum.specs.Costs.{cost_in, weight_under}
use Rattle.seq_enum.proofs.Weighing.{begun, grown, up_to, up_none, up_more, all_small}
use Rattle.seq_enum.proofs.weights.weights.Goals as goal

pub loop-turn-init : goal.loop-turn-init
loop-turn-init c = record { value = c.in_ok-weights.ensures.items ∙ begun c.args.costs.now (alphabet c.args.k c.args.pool.now); first = sym (ap length (up_none (alphabet c.args.k c.args.pool.now))) }

pub push_longer-requires-clause-within : goal.push_longer-requires-clause-within
push_longer-requires-clause-within c =
    let seqs = alphabet c.args.k c.args.pool.now in
    let turn = c.loop-turn._turn in
    omega (arith, c.loop-turn.invariant.first, ap length c.loop-turn.invariant.value, length-map (up_to seqs (turn + 1)) (weight_under (Some c.args.costs.now)), ap length (up_more seqs turn), length-append (up_to seqs turn) (words seqs turn))

pub push_longer-requires-clause-small : goal.push_longer-requires-clause-small
push_longer-requires-clause-small c =
    All-same (λ w. w ≤ 320) _ _ c.loop-turn.invariant.value (all_small c.args.costs.now c.numbers-numbers.ensures.valid (alphabet c.args.k c.args.pool.now) (c.loop-turn._turn + 1) (omega arith))

pub loop-turn-preserved : goal.loop-turn-preserved
loop-turn-preserved c =
    let instrs = alphabet c.args.k c.args.pool.now in
    let as_costs : c.deref-in-loop-turn.result.now ≡ map (cost_in c.args.costs.now) instrs =
    c.deref-in-loop-turn.ensures.value ∙ c.in_ok-instr_costs.ensures.value ∙ ap (map (cost_in c.args.costs.now)) (c.deref.ensures.value ∙ c.in_ok-alphabet.ensures.value) in
    record {
      value = grown c.args.costs.now instrs c.deref-in-loop-turn.result.now c.loop-turn._turn c.loop-turn.first c.loop-turn.weights.items c.push_longer.new.weights.items as_costs c.loop-turn.invariant.value
          c.loop-turn.invariant.first c.in_ok-push_longer.ensures;
      first = omega (arith, c.len-next.ensures, ap length c.loop-turn.invariant.value, length-map (up_to instrs (c.loop-turn._turn + 1)) (weight_under (Some c.args.costs.now)));
    }

pub returns-clause-small : goal.returns-clause-small
returns-clause-small c =
    All-same (λ w. w ≤ 320) _ _ c.loop-turn.invariant.value (all_small c.args.costs.now c.numbers-numbers.ensures.valid (alphabet c.args.k c.args.pool.now) (c.loop-turn._turn + 1) (omega arith))
