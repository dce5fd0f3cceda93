use Rattle.std.proofs.Common.{◌≡◌, ◌∙◌, inl, inr, true, length, refl, sym, ap, subst, arith}
use Rattle.std.proofs.lemmas.Bool.{cases_lt}
use Rattle.std.proofs.lemmas.List.Elements.{Contains-get_or}
use Rattle.std.proofs.lemmas.Option.{get_or_from_slice_get, slice_get_read}
use Rattle.kept_layout.specs.Moves.{news, IsRightIf}
use Rattle.kept_layout.proofs.kept.KeptLayout.are_right_if.Goals as goal

pub is_right_if-requires-clause-within : goal.is_right_if-requires-clause-within
is_right_if-requires-clause-within c = c.requires.within _ (Contains-get_or c.args.numbers.now c.loop-number.number-index 0 c.loop-number-test.true)

pub loop-number-preserved : goal.loop-number-preserved
loop-number-preserved c = λ i j h e. elim (cases_lt i c.loop-number.number-index) [
  | inl l ↦ c.loop-number.invariant i j l e
  | inr l ↦
      let here : i ≡ c.loop-number.number-index = omega arith in
      let number = get_or_from_slice_get c.args.numbers.now c.loop-number.number-index j 0 (ap (Rattle.std.specs.Prelude.slice_get c.args.numbers.now) (sym here) ∙ e) in
      let right : c.is_right_if.result ≡ true = grind arith in
      subst (IsRightIf c.args.known c.args.self.now (news c.args.self.now c.args.bytes c.args.moved.now.at.items) c.args.moved.now.by) number (c.is_right_if.ensures.0 right)
]

pub returns-clause-all : goal.returns-clause-all
returns-clause-all c = λ t j h. c.loop-number.invariant h.0 j (omega (arith, h.1, c.loop-number-test.false)) (slice_get_read c.args.numbers.now (length c.args.numbers.now) h.0 j refl h.1 (sym h.2))
