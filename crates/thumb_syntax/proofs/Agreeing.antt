-- Operands whose sorts don't agree with a form's slots don't fill them, so the reader may skip the form.
use Rattle.std.proofs.Common.{◌≡◌, inl, inr, false, List, [], ◌∷◌, ◌++◌, None, refl, true≢false}
use Rattle.std.proofs.lemmas.Bool.{cases_Bool}
use Rattle.thumb_syntax.specs.declared.form.Slot.{Slot}
use Rattle.thumb_syntax.specs.declared.form.Slot.TheVariants as slot
use Rattle.thumb_syntax.specs.Operands.{Operand, register, base, number, sign}
use Rattle.thumb_syntax.specs.Agreeing.{agree, agrees, takes_one}
use Rattle.thumb_syntax.specs.Slots.{Fields, filled_by, filled}
use Rattle.thumb_syntax.proofs.Steps.{taken_next}
use Rattle.thumb_syntax.proofs.RowRelation.{some_or_none}

disagree : (s : Slot) (f : Fields) (o : Operand) → agrees s o ≡ false → filled_by s f o ≡ None
disagree (slot.Register p) f (register r) e = absurd (true≢false e)
disagree (slot.Register p) f o e = refl
disagree (slot.Twice p q) f (register r) e = absurd (true≢false e)
disagree (slot.Twice p q) f o e = refl
disagree (slot.Same p) f (register r) e = absurd (true≢false e)
disagree (slot.Same p) f o e = refl
disagree slot.Sp f (register r) e = absurd (true≢false e)
disagree slot.Sp f o e = refl
disagree (slot.Base p) f (base r) e = absurd (true≢false e)
disagree (slot.Base p) f o e = refl
disagree (slot.Number p least most step) f (number n) e = absurd (true≢false e)
disagree (slot.Number p least most step) f o e = refl
disagree (slot.Exactly m) f (number n) e = absurd (true≢false e)
disagree (slot.Exactly m) f o e = refl
disagree (slot.Mark m) f (sign s) e = rw e refl
disagree (slot.Mark m) f o e = refl
disagree s f o e = absurd (true≢false e)

pub none_filled : (ss : List Slot) (os more : List Operand) (f : Fields) → agree ss os ≡ false → filled ss f (os ++ more) ≡ None
none_filled [] [] more f e = absurd (true≢false e)
none_filled [] (o ∷ os) more f e = refl
none_filled (s ∷ ss) [] more f e = absurd (true≢false e)
none_filled (s ∷ ss) (o ∷ os) more f e = elim (cases_Bool (takes_one s)) [
  | inl one ↦ elim (cases_Bool (agrees s o)) [
    | inl may ↦ elim (some_or_none (filled_by s f o)) [
      | inl none ↦ rw (taken_next s f (o ∷ (os ++ more)) one, none) refl
      | inr some ↦ rw (taken_next s f (o ∷ (os ++ more)) one, some.1) (none_filled ss os more some.0 (rw (one, may) at e))
    ]
    | inr may_not ↦ rw (taken_next s f (o ∷ (os ++ more)) one, disagree s f o may_not) refl
  ]
  | inr other ↦ absurd (true≢false (rw other at e))
]
