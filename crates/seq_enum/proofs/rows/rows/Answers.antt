use Rattle.seq_enum.specs.Alphabet.{rows}
use Rattle.seq_enum.proofs.Mnemonics.{rows_listed}
use Rattle.seq_enum.proofs.rows.rows.Goals as goal

pub returns-clause-listed : goal.returns-clause-listed
unfolding rows
returns-clause-listed c = rows_listed
