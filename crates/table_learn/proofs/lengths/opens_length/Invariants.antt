use Rattle.std.proofs.Common.{◌≡◌, map, take}
use Rattle.rule_table.specs.Views.{opened_of}
use Rattle.table_learn.specs.Lengths.{opens_length}
use Rattle.table_learn.proofs.lengths.opens_length.Given as goal

abbrev pub invariant-loop-name : goal.invariant-loop-name
invariant-loop-name l = l.total ≡ opens_length (map opened_of (take l.name-index l.opens))
