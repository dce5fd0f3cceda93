use Rattle.rule_table.proofs.Progress.{written_reads_back}
use Rattle.rule_table.proofs.laws.written_tables_read_back.Goals as goal

pub returns : goal.returns
returns c = written_reads_back
