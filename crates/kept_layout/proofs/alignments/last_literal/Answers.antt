use Rattle.std.proofs.Common.{◌≡◌, ◌∙◌, inl, inr, max, length, refl, ap, sym, arith}
use Rattle.std.specs.Prelude.{slice_get}
use Rattle.std.proofs.lemmas.Bool.{cases_lt}
use Rattle.std.proofs.lemmas.Option.{slice_get_read, slice_get_within}
use Rattle.kept_layout.specs.declared.block.Block.{Block}
use Rattle.kept_layout.specs.Blocks.{literal_last}
use Rattle.kept_layout.proofs.alignments.last_literal.Goals as goal

pub loop-number-preserved : goal.loop-number-preserved
loop-number-preserved c =
    let most : c.max-last.result ≡ max c.loop-number.last c.literal_last.result = c.max-last.ensures in
    λ j s l e. elim (cases_lt j c.loop-number.number) [
      | inl before ↦ omega (arith, c.loop-number.invariant j s before e)
      | inr now ↦
          let ss = c.args.blocks.now in
          let here : j ≡ c.loop-number.number = omega arith in
          let is = slice_get_read ss (length ss) c.loop-number.number c.index-blocks-number.result refl (omega arith) c.index-blocks-number.is in
          let one : s ≡ c.index-blocks-number.result = let v = ap (slice_get ss) (sym here) ∙ e in cc in
          let own : literal_last j s.head ≡ c.literal_last.result = ap (λ (x : Block). literal_last j x.head) one ∙ ap (λ n. literal_last n c.index-blocks-number.result.head) here ∙ ap (λ (x : Block). literal_last c.loop-number.number x.head) c.index-blocks-number.is ∙ sym c.literal_last.ensures in
          omega arith
    ]

pub returns : goal.returns
returns c = λ j s e. c.loop-number.invariant j s (let within = slice_get_within c.args.blocks.now j s e in omega arith) e
