use Rattle.std.proofs.Common.{◌≡◌, ◌+◌, length, map, Some}
use Rattle.std.specs.List.{flat_map}
use Rattle.seq_enum.specs.Alphabet.{numbers_from, alphabet, words}
use Rattle.seq_enum.specs.Costs.{weight_under}
use Rattle.seq_enum.proofs.weights.weights.Given as goal

abbrev pub invariant-loop-turn : goal.invariant-loop-turn
invariant-loop-turn l = record {
  value : l.weights.items ≡ map (weight_under (Some l.costs)) (flat_map (words (alphabet l.k l.pool)) (numbers_from 0 (l._turn + 1)));
  first : l.first ≡ length (flat_map (words (alphabet l.k l.pool)) (numbers_from 0 l._turn));
}
