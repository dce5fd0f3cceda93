-- An upper bound on the steps that the audit of a table counts: instructions run and literals looked at.
use Rattle.std.specs.Prelude.{ℕ, ◌+◌, ◌*◌, List, Option, Some, None, length, sum_by}
use Rattle.thumb_instr.specs.declared.instr.Instr.{Instr}
use Rattle.clause_model.specs.Clauses.{codes_of}
use Rattle.rule_table.specs.Table.{Opened, Rule, Family, Table}
use Rattle.lrat_check.specs.Proofs.{started}
use Rattle.lrat_check.specs.ProofCosts.{lines_cost, spent_cost}
use Rattle.table_audit.specs.Shorter.{formula_against, formula_of, below, below_at}
use Rattle.table_audit.specs.Families.{entry_of, raised_formula}

-- instructions run: both sides on each state once, and as much again for each sequence below the right side, twice, since it may also be named open
abbrev pub runs_cost : Table → Rule → ℕ
runs_cost t e = (2 * length (below t.header e.left e.right) + 1) * (length t.states * (length e.left + length e.right))

-- literals looked at for the lines of the entry's proof
abbrev pub proof_cost : Table → Rule → ℕ
proof_cost t e = lines_cost (started (codes_of (formula_of t.header e).clauses)) e.proof

-- literals looked at for an open number's log
abbrev pub log_cost : Table → Rule → Opened → Option (List Instr) → ℕ
log_cost t e o None = 0
log_cost t e o (Some seq) = spent_cost (codes_of (formula_against t.header e seq).clauses) o.log

abbrev pub open_cost : Table → Rule → Opened → ℕ
open_cost t e o = log_cost t e o (below_at t.header e.left e.right o.number)

abbrev pub entry_cost : Table → Rule → ℕ
entry_cost t e = runs_cost t e + proof_cost t e + sum_by (open_cost t e) e.opens

-- literals looked at for a family's proof
abbrev pub raised_cost : Table → Family → Option Rule → ℕ
raised_cost t f None = 0
raised_cost t f (Some e) = lines_cost (started (codes_of (raised_formula t.header f e).clauses)) f.proof

abbrev pub family_cost : Table → Family → ℕ
family_cost t f = raised_cost t f (entry_of t f)

abbrev pub entries_cost : Table → ℕ
entries_cost t = sum_by (entry_cost t) t.rules

abbrev pub families_cost : Table → ℕ
families_cost t = sum_by (family_cost t) t.families

abbrev pub table_cost : Table → ℕ
table_cost t = entries_cost t + families_cost t
