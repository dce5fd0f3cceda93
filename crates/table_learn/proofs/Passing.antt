-- A learnt table passes the audit also after it is written and read back.
use Rattle.std.proofs.Common.{◌≡◌, sym, subst, Ok}
use Rattle.rule_table.specs.Table.{Table}
use Rattle.rule_table.specs.Views.{table_of}
use Rattle.rule_table.proofs.Progress.{written_reads_back}
use Rattle.table_audit.specs.Acceptance.{IsAccepted}
use Rattle.table_audit.proofs.Determined.{accepted_answers}
use Rattle.table_learn.specs.Passing.{LearntPass}

pub learnt_pass : LearntPass
learnt_pass s windows t read answer learnt valid reads answers =
    let same : table_of read ≡ t = written_reads_back t (Ok read) valid reads in
    accepted_answers (table_of read) answer (subst (λ (u : Table). IsAccepted u) (sym same) learnt.accepted) answers
