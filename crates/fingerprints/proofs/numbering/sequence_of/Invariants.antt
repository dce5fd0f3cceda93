use Rattle.std.proofs.Common.{◌≡◌, drop, slice_get}
use Rattle.std.specs.List.{flat_map}
use Rattle.seq_enum.specs.Alphabet.{numbers_from, words, sequences_of}
use Rattle.fingerprints.proofs.numbering.sequence_of.Given as goal

abbrev pub invariant-loop-n : goal.invariant-loop-n
invariant-loop-n l = slice_get (flat_map (words l.alphabet) (drop l.n (numbers_from 0 6))) l.left ≡ slice_get (sequences_of l.alphabet) l.number
