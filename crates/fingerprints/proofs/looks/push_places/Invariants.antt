use Rattle.std.proofs.Common.{◌≡◌, ◌==◌, filter, get_or}
use Rattle.seq_enum.specs.Alphabet.{numbers_from}
use Rattle.fingerprints.proofs.looks.push_places.Given as goal

abbrev pub invariant-loop-place : goal.invariant-loop-place
invariant-loop-place l = l.places.items ≡ filter (λ q. get_or l.column q 0 == l.word) (numbers_from 0 l.place)
