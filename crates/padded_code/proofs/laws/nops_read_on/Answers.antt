use Rattle.padded_code.proofs.Windows.{nops_read_on}
use Rattle.padded_code.proofs.laws.nops_read_on.Goals as goal

pub returns : goal.returns
returns c = nops_read_on
