use Rattle.std.proofs.Common.{◌≡◌, ◌∙◌, ◌<◌, ℕ, List, length, ap, sym, subst, arith, true, inl, inr}
use Rattle.thumb_instr.specs.declared.items.Items.{Items}
use Rattle.thumb_instr.specs.Items.{has}
use Rattle.code_flow.specs.Flow.{way_list}
use Rattle.kept_places.specs.Marks.{marked}
use Rattle.liveness.specs.Graph.{some_leads, ways_at}
use Rattle.liveness.specs.Ahead.{gained_ahead, IsAheadBut}
use Rattle.liveness.proofs.Aheads.{put_ahead}
use Rattle.liveness.proofs.Passings.{ways_read}
use Rattle.liveness.proofs.forward.renew_at.Goals as goal

pub returns-clause-ahead : goal.returns-clause-ahead
returns-clause-ahead c = λ w old ok a.
    let all = c.args.ways.now in
    let p = c.args.place in
    let sets = c.args.forward.now.sets.items in
    let inside : p < length sets = omega (arith, c.requires.place, c.requires.many) in
    let here : (x : ℕ) → has c.read_ahead-set.result.bits x ≡ true → gained_ahead p (ways_at all p) sets x ≡ true = λ x h.
    ap (λ ws. gained_ahead p ws sets x) (ways_read all p c.index-ways-place.result c.requires.place c.index-ways-place.is) ∙ ap (λ (l : List Items). gained_ahead p (way_list c.index-ways-place.result) l x) (sym c.as_slice.ensures.value) ∙ sym (c.read_ahead-set.ensures x) ∙ h in
    let told : (q : ℕ) → q < p → some_leads p (ways_at all q) ≡ true → marked c.due_callers.new.due q ≡ true = λ q l h. elim (w.told p q h) [
      | inl e ↦ c.due_callers.ensures.kept q (c.due_before.ensures.told q e h)
      | inr j ↦ c.due_callers.ensures.told w.callers q l j
    ] in
    subst (λ (ss : List Items). IsAheadBut all ss c.due_callers.new.due) (sym c.put.ensures.sets) (put_ahead all sets p c.read_ahead-set.result old c.due_callers.new.due inside here (λ q d m. c.due_callers.ensures.kept q (c.due_before.ensures.kept q (ok q d m))) told a)
