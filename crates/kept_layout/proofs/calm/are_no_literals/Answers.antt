use Rattle.std.proofs.Common.{◌≡◌, ◌∙◌, inl, inr, length, refl, sym, ap, arith}
use Rattle.std.specs.Prelude.{slice_get}
use Rattle.std.proofs.lemmas.Bool.{cases_lt}
use Rattle.std.proofs.lemmas.List.Elements.{Contains-get_or}
use Rattle.std.proofs.lemmas.Option.{get_or_from_slice_get, slice_get_read}
use Rattle.kept_layout.proofs.calm.are_no_literals.Goals as goal

pub is_literal_at-requires : goal.is_literal_at-requires
is_literal_at-requires c = c.requires _ (Contains-get_or c.args.numbers.now c.loop-number.number-index 0 c.loop-number-test.true)

pub loop-number-preserved : goal.loop-number-preserved
loop-number-preserved c = λ i j s h e f. elim (cases_lt i c.loop-number.number-index) [
  | inl l ↦ c.loop-number.invariant i j s l e f
  | inr l ↦
      let here : i ≡ c.loop-number.number-index = omega arith in
      let number = get_or_from_slice_get c.args.numbers.now c.loop-number.number-index j 0 (ap (slice_get c.args.numbers.now) (sym here) ∙ e) in
      sym (c.is_literal_at.ensures s (ap (slice_get c.args.blocks.now) number ∙ f)) ∙ c.if-is_literal_at.false
]

pub returns : goal.returns
returns c = λ t j s h f. c.loop-number.invariant h.0 j s (omega (arith, h.1, c.loop-number-test.false)) (slice_get_read c.args.numbers.now (length c.args.numbers.now) h.0 j refl h.1 (sym h.2)) f
