use Rattle.std.proofs.Common.{◌≡◌, ◌++◌, drop}
use Rattle.lrat_check.specs.Runs.{contents_of}
use Rattle.lrat_check.specs.Ending.{adds_of, up_to_empty}
use Rattle.lrat_check.proofs.trimming.additions_of.Given as goal

abbrev pub invariant-loop-line : goal.invariant-loop-line
invariant-loop-line l = adds_of l.additions.items ++ up_to_empty (drop l.line-index (contents_of l.lines)) ≡ up_to_empty (contents_of l.lines)
