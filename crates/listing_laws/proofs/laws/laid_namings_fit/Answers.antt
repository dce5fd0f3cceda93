use Rattle.listing_laws.proofs.Fitted.{laid_namings_fit}
use Rattle.listing_laws.proofs.laws.laid_namings_fit.Goals as goal

pub returns : goal.returns
returns c = laid_namings_fit
