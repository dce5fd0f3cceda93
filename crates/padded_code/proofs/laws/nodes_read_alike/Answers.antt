use Rattle.padded_code.proofs.Windows.{nodes_read}
use Rattle.padded_code.proofs.laws.nodes_read_alike.Goals as goal

pub returns : goal.returns
returns c = nodes_read
