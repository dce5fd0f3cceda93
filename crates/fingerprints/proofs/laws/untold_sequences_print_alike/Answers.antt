use Rattle.fingerprints.proofs.Alike.{untold_alike}
use Rattle.fingerprints.proofs.laws.untold_sequences_print_alike.Goals as goal

pub returns : goal.returns
returns c = untold_alike
