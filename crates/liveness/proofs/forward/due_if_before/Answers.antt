use Rattle.std.proofs.Common.{◌∙◌, List, Bool, ap, sym, inl, inr, arith, true}
use Rattle.kept_places.specs.Marks.{marked}
use Rattle.kept_places.proofs.Ranks.{marked_set}
use Rattle.liveness.proofs.Aheads.{mark_kept, mark_back}
use Rattle.liveness.proofs.forward.due_if_before.Goals as goal

pub returns-then-other-place-clause-kept : goal.returns-then-other-place-clause-kept
returns-then-other-place-clause-kept c = λ q h. ap (λ (ms : List Bool). marked ms q) c.insert.ensures ∙ mark_kept c.args.due.now c.args.other q c.requires h

pub returns-then-other-place-clause-below : goal.returns-then-other-place-clause-below
returns-then-other-place-clause-below c = λ q h. elim (mark_back c.args.due.now c.args.other q (sym (ap (λ (ms : List Bool). marked ms q) c.insert.ensures) ∙ h)) [
  | inl m ↦ inl m
  | inr e ↦ inr (omega (arith, e, c.if-other-place.true))
]

pub returns-then-other-place-clause-told : goal.returns-then-other-place-clause-told
returns-then-other-place-clause-told c = λ l. ap (λ (ms : List Bool). marked ms c.args.other) c.insert.ensures ∙ marked_set c.args.due.now c.args.other true c.requires
