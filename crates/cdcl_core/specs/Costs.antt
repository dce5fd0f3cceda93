-- A lower bound on the solver's steps, so that a body that counts nothing is refused.
use Rattle.std.specs.Prelude.{ℕ, length}
use Rattle.cdcl_core.specs.declared.search.Ending.{Ending}
use Rattle.cdcl_core.specs.declared.search.Ending.TheVariants.{Model, Refuted, Taught}
use Rattle.cdcl_core.specs.declared.solving.Verdict.{Verdict}
use Rattle.cdcl_core.specs.declared.solving.Verdict.TheVariants.{Sat, Unsat, Spent}

-- the conflicts in an ending
abbrev pub conflicts_in : Ending → ℕ
conflicts_in Model = 0
conflicts_in (Refuted line) = 1
conflicts_in (Taught line) = 1

-- the lines of a verdict's log, one for each conflict
abbrev pub lines_in : Verdict → ℕ
lines_in (Sat model) = 0
lines_in (Unsat log) = length log.items
lines_in (Spent log) = length log.items
