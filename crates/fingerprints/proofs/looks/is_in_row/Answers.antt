use Rattle.std.proofs.Common.{◌≡◌, eqb, map, sym, ◌∙◌, arith, w32}
use Rattle.std.specs.Simd.Lanes.{chunk, mask_l}
use Rattle.std.proofs.lemmas.Bool.{eqb-true, not-false}
use Rattle.std.proofs.lemmas.Simd.{length-chunk, bitmask_splat, none_from_empty_mask}
use Rattle.fingerprints.proofs.looks.is_in_row.Goals as goal

pub returns : goal.returns
returns c = λ h k low high.
    let column = c.args.column.now in
    let word = c.args.word in
    let here = chunk c.args.first 64 column in
    let empty : mask_l (map (λ x. eqb x word) here) ≡ 0 =
    sym (bitmask_splat w32 eqb here 64 word (length-chunk c.args.first 64 column c.requires) (omega arith)) ∙ eqb-true _ _ (not-false _ h) in
    none_from_empty_mask (λ x. eqb x word) column c.args.first 64 0 c.requires empty k low high
