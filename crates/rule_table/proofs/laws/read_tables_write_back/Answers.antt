use Rattle.rule_table.proofs.laws.read_tables_write_back.Goals as goal

pub returns : goal.returns
returns c = λ bytes t r. r.whole
