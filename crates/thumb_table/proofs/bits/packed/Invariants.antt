use Rattle.std.proofs.Common.{◌≡◌, ◌+◌, ◌≤◌, ◌<◌, ◌^◌, true, drop}
use Rattle.thumb_table.specs.Table.{width, packed}
use Rattle.thumb_table.specs.ReadBits.{are_narrow}
use Rattle.thumb_table.proofs.bits.packed.Given as goal

abbrev pub invariant-loop-piece : goal.invariant-loop-piece
invariant-loop-piece l = record {
  left : l.left ≡ width (drop l.piece-index l.pieces);
  short : l.left ≤ 32;
  narrow : are_narrow (drop l.piece-index l.pieces) ≡ true;
  below : packed l.pieces l.parts < 2 ^ 32;
  code : l.code + packed (drop l.piece-index l.pieces) l.parts ≡ packed l.pieces l.parts;
}
