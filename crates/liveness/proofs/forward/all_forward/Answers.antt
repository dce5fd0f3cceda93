use Rattle.std.proofs.Common.{◌≡◌, ◌∙◌, ◌-◌, ◌<◌, ◌≤◌, ℕ, List, length, ap, sym, subst, arith, true, false}
use Rattle.std.proofs.lemmas.List.{length-set}
use Rattle.thumb_instr.specs.declared.items.Items.{Items}
use Rattle.thumb_instr.specs.Items.{has}
use Rattle.liveness.specs.Live.{set_at}
use Rattle.code_flow.specs.Flow.{way_list}
use Rattle.liveness.specs.Graph.{ways_at}
use Rattle.liveness.specs.Ahead.{gained_ahead, IsAhead}
use Rattle.liveness.proofs.Aheads.{more_ahead, none_more}
use Rattle.liveness.proofs.Passings.{ways_read}
use Rattle.liveness.proofs.forward.all_forward.Goals as goal

pub loop-at-preserved : goal.loop-at-preserved
loop-at-preserved c =
    let all = c.args.ways.now in
    let sets = c.loop-at.forward.sets.items in
    let p : ℕ = c.loop-at.at - 1 in
    let inside : p < length sets = omega (arith, c.loop-at.invariant.within, c.loop-at.invariant.many, c.loop-at-test.true) in
    let none : (q x : ℕ) → q ≤ p → has (set_at sets q) x ≡ false = λ q x l. c.loop-at.invariant.none q x (omega (arith, l, c.loop-at-test.true)) in
    let here : (x : ℕ) → has c.read_ahead-set.result.bits x ≡ true → gained_ahead p (ways_at all p) sets x ≡ true = λ x h.
    ap (λ ws. gained_ahead p ws sets x) (ways_read all p c.index-ways-at.result (omega (arith, inside, c.loop-at.invariant.many)) c.index-ways-at.is) ∙ ap (λ (l : List Items). gained_ahead p (way_list c.index-ways-at.result) l x) (sym c.as_slice.ensures.value) ∙ sym (c.read_ahead-set.ensures x) ∙ h in
    record {
      within = omega (arith, c.loop-at.invariant.within);
      counted = c.put.ensures.counted;
      many = ap length c.put.ensures.sets ∙ length-set sets p c.read_ahead-set.result ∙ c.loop-at.invariant.many;
      none = λ q x l. ap (λ (ss : List Items). has (set_at ss q) x) c.put.ensures.sets ∙ none_more sets p c.read_ahead-set.result none q x l;
      ahead = subst (IsAhead all) (sym c.put.ensures.sets) (more_ahead all sets p c.read_ahead-set.result inside here none c.loop-at.invariant.ahead);
    }
