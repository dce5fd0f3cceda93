use Rattle.std.proofs.Common.{◌≡◌, map, take}
use Rattle.lrat_check.specs.Text.{content_of}
use Rattle.table_learn.specs.Lengths.{log_length}
use Rattle.table_learn.proofs.lengths.log_length.Given as goal

abbrev pub invariant-loop-line : goal.invariant-loop-line
invariant-loop-line l = l.total ≡ log_length (map content_of (take l.line-index l.lines))
