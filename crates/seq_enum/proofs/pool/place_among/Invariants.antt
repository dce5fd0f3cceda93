use Rattle.std.proofs.Common.{◌≡◌, ◌+◌, ◌≤◌, filter, drop}
use Rattle.std.specs.Option.{option_map}
use Rattle.seq_enum.specs.Alphabet.{inside}
use Rattle.seq_enum.specs.Places.{place_of}
use Rattle.seq_enum.proofs.pool.place_among.Given as goal

abbrev pub invariant-loop-x : goal.invariant-loop-x
invariant-loop-x l = record {
  small : l.before ≤ l.x-index;
  left : option_map (λ i. l.before + i) (place_of l.number (filter (inside l.least l.limit) (drop l.x-index l.numbers)))
      ≡ place_of l.number (filter (inside l.least l.limit) l.numbers);
}
