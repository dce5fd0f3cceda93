use Rattle.std.proofs.Common.{◌≡◌, ◌+◌, drop, slice_get}
use Rattle.std.specs.List.{flat_map}
use Rattle.seq_enum.specs.Alphabet.{numbers_from, words, sequences_of}
use Rattle.seq_enum.specs.Walks.{shorter}
use Rattle.seq_enum.proofs.walk.word_of.Given as goal

abbrev pub invariant-loop-n : goal.invariant-loop-n
invariant-loop-n l = record {
  number : shorter l.alphabet l.n + l.left ≡ l.number;
  rest : slice_get (flat_map (words l.alphabet) (drop l.n (numbers_from 0 6))) l.left ≡ slice_get (sequences_of l.alphabet) l.number;
}
