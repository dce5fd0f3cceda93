use Rattle.std.proofs.Common.{◌≡◌, ◌++◌, take, map}
use Rattle.std.specs.Prelude.{decimal}
use Rattle.rule_table.specs.Text.{after_blanks}
use Rattle.rule_table.proofs.lines.write_numbers.Given as goal

abbrev pub invariant-loop-number : goal.invariant-loop-number
invariant-loop-number l = l.out.items ≡ l.initial.out.items ++ after_blanks (map decimal (take l.number-index l.numbers))
