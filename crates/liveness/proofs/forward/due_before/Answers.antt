use Rattle.std.proofs.Common.{◌≡◌, ◌∙◌, ◌-◌, List, Bool, ap, sym, inl, inr, arith, true}
use Rattle.kept_places.specs.Marks.{marked}
use Rattle.kept_places.proofs.Ranks.{marked_set}
use Rattle.liveness.proofs.Aheads.{mark_kept, mark_back}
use Rattle.liveness.proofs.forward.due_before.Goals as goal

pub returns-clause-kept : goal.returns-clause-kept
returns-clause-kept c = λ q h. ap (λ (ms : List Bool). marked ms q) c.insert.ensures ∙ mark_kept c.args.due.now (c.args.place - 1) q (omega (arith, c.requires.place, c.requires.many)) h

pub returns-clause-below : goal.returns-clause-below
returns-clause-below c = λ q h. elim (mark_back c.args.due.now (c.args.place - 1) q (sym (ap (λ (ms : List Bool). marked ms q) c.insert.ensures) ∙ h)) [
  | inl m ↦ inl m
  | inr e ↦ inr (omega (arith, e, c.if-place-eq0.false))
]

pub returns-clause-told : goal.returns-clause-told
returns-clause-told c = λ q e h.
    let at : q ≡ c.args.place - 1 = omega arith in
    ap (λ (ms : List Bool). marked ms q) c.insert.ensures ∙ ap (marked _) at ∙ marked_set c.args.due.now (c.args.place - 1) true (omega (arith, c.requires.place, c.requires.many))
