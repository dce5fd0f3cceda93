use Rattle.std.proofs.Common.{◌≡◌, ◌∙◌, ◌+◌, ◌-◌, ◌%◌, ◌/◌, ◌^◌, ℕ, List, drop, get_or, arith, sym, ap}
use Rattle.std.specs.Prelude.{if◌then◌else◌}
use Rattle.thumb_table.specs.declared.row.Piece.{Piece}
use Rattle.thumb_table.specs.declared.row.Piece.TheVariants.{Fixed}
use Rattle.thumb_table.specs.Table.{width_of, width}
use Rattle.thumb_table.specs.ReadBits.{is_about, told, most_of, most}
use Rattle.thumb_table.proofs.Rows.{cut_at, upper_below}
use Rattle.thumb_table.proofs.bits.read.Goals as goal

pub told-known-requires-clause-value : goal.told-known-requires-clause-value
told-known-requires-clause-value c =
    let piece : Piece = get_or c.args.pieces.now c.loop-piece.piece-index (Fixed 0 0) in
    let wide : width (drop c.loop-piece.piece-index c.args.pieces.now) ≡ width_of piece + width (drop (c.loop-piece.piece-index + 1) c.args.pieces.now) = (cut_at c.args.pieces.now c.loop-piece.piece-index (omega arith)).wide in
    upper_below c.loop-piece.rest (c.loop-piece.left - c.width_of-left.result) (width_of piece) c.loop-piece.left (omega arith) c.loop-piece.invariant.below

pub loop-piece-preserved : goal.loop-piece-preserved
loop-piece-preserved c =
    let piece : Piece = get_or c.args.pieces.now c.loop-piece.piece-index (Fixed 0 0) in
    let rest : List Piece = drop (c.loop-piece.piece-index + 1) c.args.pieces.now in
    let cut = cut_at c.args.pieces.now c.loop-piece.piece-index (omega arith) in
    let wide : width (drop c.loop-piece.piece-index c.args.pieces.now) ≡ width_of piece + width rest = cut.wide in
    let most_is : most (drop c.loop-piece.piece-index c.args.pieces.now) ≡ most_of piece + most rest = cut.most in
    let left : c.loop-piece.left - c.width_of-left.result ≡ width rest = omega arith in
    let known : c.told-known.result ≡ (if is_about c.args.operand piece then told piece (c.loop-piece.rest / 2 ^ width rest) c.loop-piece.known else c.loop-piece.known) =
    c.told-known.ensures.told ∙ ap (λ (n : ℕ). if is_about c.args.operand piece then told piece (c.loop-piece.rest / 2 ^ n) c.loop-piece.known else c.loop-piece.known) left in
    let low : c.lowest-rest.result ≡ c.loop-piece.rest % 2 ^ width rest = c.lowest-rest.ensures.is ∙ ap (λ (n : ℕ). c.loop-piece.rest % 2 ^ n) left in
    record {
      left = left;
      short = omega arith;
      narrow = (cut.narrow c.loop-piece.invariant.narrow).1;
      below = c.lowest-rest.ensures.below;
      small = c.loop-piece.invariant.small;
      most = omega arith;
      value = rw (low, known) (sym (cut.read c.args.operand c.loop-piece.rest c.loop-piece.known) ∙ c.loop-piece.invariant.value);
    }
