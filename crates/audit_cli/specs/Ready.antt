-- What trimming a family's proof requires, which holds of each family of an accepted table.
use Rattle.std.specs.Prelude.{◌≡◌, List, Some}
use Rattle.clause_model.specs.Clauses.{codes_of}
use Rattle.lrat_check.specs.Runs.{IsRefutation}
use Rattle.rule_table.specs.Header.{Header}
use Rattle.rule_table.specs.Table.{Rule, Family}
use Rattle.table_audit.specs.Canonical.{HasFormula}
use Rattle.table_audit.specs.Families.{entry_at, raised_formula, IsRaisable}

-- the family's entry has a formula, its number can be raised, and the family's proof refutes the raised formula of the two
pub record IsRaised (h : Header) (rules : List Rule) (f : Family) : Type 0 where
  pub entry : Rule
  pub is_entry : entry_at rules f.entry ≡ Some entry
  pub formula : HasFormula h entry
  pub raisable : IsRaisable h.pool f entry.left
  pub refutes : IsRefutation (codes_of (raised_formula h f entry).clauses) f.proof
