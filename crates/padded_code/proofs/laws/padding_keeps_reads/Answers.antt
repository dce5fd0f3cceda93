use Rattle.padded_code.proofs.Padded.{read_alike}
use Rattle.padded_code.proofs.laws.padding_keeps_reads.Goals as goal

pub returns : goal.returns
returns c = read_alike
