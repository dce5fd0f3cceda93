use Rattle.padded_code.proofs.Fitting.{least_by_places}
use Rattle.padded_code.proofs.laws.least_by_places.Goals as goal

pub returns : goal.returns
returns c = least_by_places
