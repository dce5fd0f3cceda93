use Rattle.std.proofs.Common.{◌≡◌, ◌+◌, ◌*◌, ◌++◌, filter, length}
use Rattle.seq_enum.specs.Alphabet.{numbers_from}
use Rattle.table_audit.specs.Lighter.{is_light_at}
use Rattle.table_audit.proofs.lighter.push_longer.Given as goal

abbrev pub invariant-loop-place : goal.invariant-loop-place
invariant-loop-place l =
    l.numbers.items ≡ l.initial.numbers.items ++ filter (is_light_at l.costs l.alphabet (l.number * length l.alphabet + 1) l.limit l.count) (numbers_from (l.number * length l.alphabet + 1) l.place)
