use Rattle.std.proofs.Common.{◌≤◌, ◌<◌, ◌+◌, ◌-◌, ◌/◌, ◌∙◌, length, refl, sym, ap, subst, arith}
use Rattle.seq_enum.specs.Costs.{weight_under}
use Rattle.fingerprints.specs.Outcomes.{sequences_below}
use Rattle.table_audit.specs.Lighter.{AreLighter}
use Rattle.table_audit.proofs.Gathering.{Queue, queue_begun, queue_there, queue_light, queue_small, queue_step, queue_done, few_enough, all_lighter}
use Rattle.table_audit.proofs.lighter.few_lighter.Goals as goal
use Rattle.table_audit.proofs.lighter.few_lighter.Goals.{then-loop-place-test+else-len-most, else-loop-place-test}

pub loop-place-init : goal.loop-place-init
loop-place-init c =
    subst (Queue c.args.costs.now c.alphabet-alphabet.result.now c.args.limit (c.args.longest + 1) 0) (sym c.in_ok-numbers.ensures.items)
    (queue_begun c.args.costs.now c.alphabet-alphabet.result.now c.args.limit (c.args.longest + 1) c.requires.some (omega arith))

pub unreachable-requires : goal.unreachable-requires
unreachable-requires c =
    queue_there c.args.costs.now c.alphabet-alphabet.result.now c.args.outcomes.now.alphabet c.args.limit (c.args.longest + 1) c.loop-place.place c.index-number.result.now c.loop-place.numbers.items
    (omega arith) c.index-number.ensures (sym c.alphabet-alphabet.ensures.value) (omega arith) c.loop-place.invariant c.sequence_at.result c.sequence_at.ensures c.in_default.is

pub overflow_sub-left : goal.overflow_sub-left
overflow_sub-left c =
    let light : weight_under c.args.costs.now c.in-Some.seq < c.args.limit =
    queue_light c.args.costs.now c.alphabet-alphabet.result.now c.args.outcomes.now.alphabet c.args.limit (c.args.longest + 1) c.loop-place.place c.index-number.result.now c.loop-place.numbers.items
    (omega arith) c.index-number.ensures (sym c.alphabet-alphabet.ensures.value) (omega arith) c.loop-place.invariant c.sequence_at.result c.sequence_at.ensures c.in-Some.seq c.in-Some.is in
    omega (arith, light, c.weight.ensures.value)

pub push_longer-requires-clause-small : goal.push_longer-requires-clause-small
push_longer-requires-clause-small c =
    queue_small c.args.costs.now c.alphabet-alphabet.result.now c.args.outcomes.now.alphabet c.args.limit (c.args.longest + 1) c.loop-place.place c.index-number.result.now c.loop-place.numbers.items
    (omega arith) c.index-number.ensures (sym c.alphabet-alphabet.ensures.value) (omega arith) c.loop-place.invariant c.sequence_at.result c.sequence_at.ensures c.alphabet-alphabet.ensures.few (omega arith)

pub loop-place-preserved : goal.loop-place-preserved
loop-place-preserved c =
    queue_step c.args.costs.now c.alphabet-alphabet.result.now c.args.outcomes.now.alphabet c.args.limit (c.args.longest + 1) c.loop-place.place c.index-number.result.now c.loop-place.numbers.items
    (omega arith) c.index-number.ensures (sym c.alphabet-alphabet.ensures.value) (omega arith) c.loop-place.invariant c.sequence_at.result c.sequence_at.ensures
    c.in-Some.seq _ c.count-count.result c.push_longer.new.numbers.items c.in-Some.is (ap (λ n. c.args.limit - n) c.weight.ensures.value)
    (c.count-count.ensures ∙ ap (λ ls. length (sequences_below ls (c.args.longest + 1))) (sym c.alphabet-alphabet.ensures.value)) c.in_ok-push_longer.ensures

pub returns-then-len-most-2 : goal.returns-then-len-most-2
returns-then-len-most-2 c =
    let past : length c.loop-place.numbers.items ≤ c.loop-place.place = elim c.loop-place-test.branch [
      | then-loop-place-test+else-len-most w ↦ absurd (omega (arith, w.if-len-most.false, w.len-in-loop-place.ensures, c.if-len-most-2.true, c.len-2.ensures))
      | else-loop-place-test w ↦ omega (arith, w.loop-place-test.false, c.len.ensures)
    ] in
    subst (λ ls. AreLighter c.args.costs.now c.args.limit (sequences_below ls (c.args.longest + 1)) c.loop-place.numbers.items) c.alphabet-alphabet.ensures.value
    (queue_done c.args.costs.now c.alphabet-alphabet.result.now c.args.limit (c.args.longest + 1) c.loop-place.place c.loop-place.numbers.items c.alphabet-alphabet.ensures.some past c.loop-place.invariant)

pub returns-else-len-most-2 : goal.returns-else-len-most-2
returns-else-len-most-2 c =
    let many : c.count-count.result / 128 < length c.loop-place.numbers.items = omega (arith, c.if-len-most-2.false, c.len-2.ensures) in
    let queue : Queue c.args.costs.now c.args.outcomes.now.alphabet c.args.limit (c.args.longest + 1) c.loop-place.place c.loop-place.numbers.items =
    subst (λ ls. Queue c.args.costs.now ls c.args.limit (c.args.longest + 1) c.loop-place.place c.loop-place.numbers.items) c.alphabet-alphabet.ensures.value c.loop-place.invariant in
    few_enough c.args.costs.now c.args.outcomes.now.alphabet c.args.limit (c.args.longest + 1) c.loop-place.place c.count-count.result (c.count-count.result / 128) c.loop-place.numbers.items c.count-count.ensures refl many queue

pub returns-then-are_all_lighter : goal.returns-then-are_all_lighter
returns-then-are_all_lighter c =
    let all = c.are_all_lighter.ensures c.if-are_all_lighter.true in
    all_lighter c.args.costs.now c.args.outcomes.now.alphabet c.args.limit (c.args.longest + 1) all.0 all.1
