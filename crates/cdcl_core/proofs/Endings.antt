-- An ending has at most one conflict.
use Rattle.std.proofs.Common.{◌≤◌, arith}
use Rattle.cdcl_core.specs.declared.search.Ending.{Ending}
use Rattle.cdcl_core.specs.declared.search.Ending.TheVariants.{Model, Refuted, Taught}
use Rattle.cdcl_core.specs.Costs.{conflicts_in}

pub one_at_most : (ending : Ending) → conflicts_in ending ≤ 1
one_at_most Model = omega arith
one_at_most (Refuted line) = omega arith
one_at_most (Taught line) = omega arith
