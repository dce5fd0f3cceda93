use Rattle.std.proofs.Common.{◌≡◌, drop, slice_get}
use Rattle.std.specs.List.{flat_map}
use Rattle.seq_enum.specs.Alphabet.{members}
use Rattle.seq_enum.proofs.alphabet.nth_of.Given as goal

abbrev pub invariant-loop-row : goal.invariant-loop-row
invariant-loop-row l = slice_get (flat_map (members l.k l.pool) (drop l.row-index l.rows)) l.left
    ≡ slice_get (flat_map (members l.k l.pool) l.rows) l.place
