use Rattle.padded_code.proofs.Padded.{name_ranked}
use Rattle.padded_code.proofs.laws.padding_keeps_names.Goals as goal

pub returns : goal.returns
returns c = name_ranked
