use Rattle.std.proofs.Common.{◌≡◌, ◌*◌, ◌==◌, filter, get_or}
use Rattle.seq_enum.specs.Alphabet.{numbers_from}
use Rattle.fingerprints.proofs.looks.places_of.Given as goal

abbrev pub invariant-loop-row : goal.invariant-loop-row
invariant-loop-row l = l.places.items ≡ filter (λ q. get_or l.column q 0 == l.word) (numbers_from 0 (l.row * 64))
