use Rattle.std.proofs.Common.{◌≡◌, ◌+◌, drop}
use Rattle.thumb_table.specs.Table.{width}
use Rattle.thumb_table.proofs.bits.width.Given as goal

abbrev pub invariant-loop-piece : goal.invariant-loop-piece
invariant-loop-piece l = l.sum + width (drop l.piece-index l.pieces) ≡ width l.pieces
