use Rattle.std.proofs.Common.{subst}
use Rattle.listing_parser.specs.Targets.{DefineOnce}
use Rattle.listing_parser.proofs.listing.Listing.into_lines.Goals as goal

pub returns-clause-once : goal.returns-clause-once
returns-clause-once c = subst DefineOnce c.self.view_is c.self.invariant.once
