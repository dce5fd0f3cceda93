use Rattle.std.proofs.Common.{◌≡◌, ◌≤◌, drop}
use Rattle.thumb_table.specs.Table.{width}
use Rattle.thumb_table.specs.ReadBits.{agrees}
use Rattle.thumb_table.proofs.bits.agrees.Given as goal

abbrev pub invariant-loop-piece : goal.invariant-loop-piece
invariant-loop-piece l = record { left : l.left ≡ width (drop l.piece-index l.pieces); short : l.left ≤ 32; rest : agrees (drop l.piece-index l.pieces) l.rest ≡ agrees l.pieces l.code }
