use Rattle.std.proofs.Common.{◌≡◌, drop, slice_get}
use Rattle.std.specs.List.{flat_map}
use Rattle.seq_enum.specs.Alphabet.{numbers_from, words, alphabet, sequences}
use Rattle.seq_enum.proofs.sequences.seq_at.Given as goal

abbrev pub invariant-loop-n : goal.invariant-loop-n
invariant-loop-n l = slice_get (flat_map (words (alphabet l.k l.pool)) (drop l.n (numbers_from 0 6))) l.left
    ≡ slice_get (sequences l.k l.pool) l.number
