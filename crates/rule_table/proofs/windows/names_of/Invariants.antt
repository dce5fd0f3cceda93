use Rattle.std.proofs.Common.{◌≡◌, ◌-◌, drop}
use Rattle.rule_table.specs.Canonical.{numbers_of}
use Rattle.rule_table.proofs.NameLists.{names_from}
use Rattle.rule_table.proofs.windows.names_of.Given as goal

abbrev pub invariant-loop-turn : goal.invariant-loop-turn
invariant-loop-turn l = numbers_of l.names ≡ names_from (l.count - l.turn) (numbers_of (drop (l.count - l.turn) l.order))
