use Rattle.listing_parser.proofs.Literals.{literals_stand}
use Rattle.listing_parser.proofs.laws.literals_stand_behind_their_labels.Goals as goal

pub returns : goal.returns
returns c = literals_stand
