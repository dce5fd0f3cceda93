use Rattle.padded_code.proofs.Fitting.{applies_by_places}
use Rattle.padded_code.proofs.laws.applies_by_places.Goals as goal

pub returns : goal.returns
returns c = applies_by_places
