use Rattle.std.proofs.Common.{◌≡◌, ◌+◌, ◌≤◌, ◌<◌, ◌^◌, true, drop}
use Rattle.thumb_table.specs.Table.{width}
use Rattle.thumb_table.specs.ReadBits.{read_on, are_narrow, most}
use Rattle.thumb_table.proofs.bits.read.Given as goal

abbrev pub invariant-loop-piece : goal.invariant-loop-piece
invariant-loop-piece l = record {
  left : l.left ≡ width (drop l.piece-index l.pieces);
  short : l.left ≤ 32;
  narrow : are_narrow (drop l.piece-index l.pieces) ≡ true;
  below : l.rest < 2 ^ l.left;
  small : most l.pieces < 2 ^ 32;
  most : l.known + most (drop l.piece-index l.pieces) ≤ most l.pieces;
  value : read_on l.operand (drop l.piece-index l.pieces) l.rest l.known ≡ read_on l.operand l.pieces l.code 0;
}
