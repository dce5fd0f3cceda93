use Rattle.std.proofs.Common.{◌≡◌, not, filter, get_or}
use Rattle.seq_enum.specs.Alphabet.{numbers_from}
use Rattle.fingerprints.specs.Looks.{flags_differ}
use Rattle.fingerprints.proofs.looks.flag_places.Given as goal

abbrev pub invariant-loop-place : goal.invariant-loop-place
invariant-loop-place l = l.places.items ≡ filter (λ q. not (flags_differ l.mask.items.bits (get_or l.flags q 0) l.nzcv)) (numbers_from 0 l.place)
