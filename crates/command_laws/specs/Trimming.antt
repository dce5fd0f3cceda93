-- A table and what `trim` keeps of it: the audit accepts both, rewriting by them is the same, and the kept text is no longer.
use Rattle.std.specs.Prelude.{◌≡◌, ◌≤◌, ℕ}
use Rattle.rule_table.specs.Table.{Table, IsTable}
use Rattle.table_audit.specs.Acceptance.{IsAccepted}
use Rattle.table_learn.specs.Learnt.{text_length}
use Rattle.window_rewrite.specs.TableRewriting.{setting}
use Rattle.audit_cli.specs.Trim.{IsTrimmedTable}

abbrev pub TrimmedTablesAreAccepted : Type 0
TrimmedTablesAreAccepted = (t trimmed : Table) → IsTable t → IsAccepted t → IsTrimmedTable t trimmed → IsTable trimmed × IsAccepted trimmed

abbrev pub TrimmedTablesRewriteAlike : Type 0
TrimmedTablesRewriteAlike = (t trimmed : Table) (base : ℕ) → IsTrimmedTable t trimmed → setting base trimmed ≡ setting base t

abbrev pub TrimmedTextsAreNoLonger : Type 0
TrimmedTextsAreNoLonger = (t trimmed : Table) → IsAccepted t → IsTrimmedTable t trimmed → text_length trimmed ≤ text_length t

-- the trimmed table is determined, and stays the same when it is trimmed again
abbrev pub TrimmingIsOne : Type 0
TrimmingIsOne = (t a b : Table) → IsTrimmedTable t a → IsTrimmedTable t b → a ≡ b

abbrev pub TrimmedTablesStay : Type 0
TrimmedTablesStay = (t trimmed : Table) → IsAccepted t → IsTrimmedTable t trimmed → IsTrimmedTable trimmed trimmed
