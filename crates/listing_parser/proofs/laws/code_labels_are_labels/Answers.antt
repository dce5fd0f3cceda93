use Rattle.listing_parser.proofs.Namings.{code_labels_are_labels}
use Rattle.listing_parser.proofs.laws.code_labels_are_labels.Goals as goal

pub returns : goal.returns
returns c = code_labels_are_labels
