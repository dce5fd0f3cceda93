use Rattle.std.proofs.Common.{◌≡◌}
use Rattle.seq_enum.specs.Alphabet.{numbers_from}
use Rattle.fingerprints.proofs.short_list.all_below.Given as goal

abbrev pub invariant-loop-number : goal.invariant-loop-number
invariant-loop-number l = l.numbers.items ≡ numbers_from 0 l.number
