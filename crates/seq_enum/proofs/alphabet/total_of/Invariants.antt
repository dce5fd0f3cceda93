use Rattle.std.proofs.Common.{◌≡◌, ◌*◌, ◌≤◌, length, take}
use Rattle.std.specs.List.{flat_map}
use Rattle.seq_enum.specs.Alphabet.{members}
use Rattle.seq_enum.proofs.alphabet.total_of.Given as goal

abbrev pub invariant-loop-row : goal.invariant-loop-row
invariant-loop-row l = record {
  total : l.total ≡ length (flat_map (members l.k l.pool) (take l.row-index l.rows));
  small : l.total ≤ 4096 * l.row-index;
}
