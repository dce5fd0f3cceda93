use Rattle.padded_code.proofs.Lines.{lines_stay_padded}
use Rattle.padded_code.proofs.laws.lines_stay_padded.Goals as goal

pub returns : goal.returns
returns c = lines_stay_padded
