use Rattle.std.proofs.Common.{List, map, subst, sym}
use Rattle.listing_parser.specs.declared.line.ListingLine.{ListingLine as Lines}
use Rattle.listing_parser.specs.Targets.{DefineOnce}
use Rattle.listing_parser.specs.Views.{line_view}
use Rattle.listing_parser.proofs.listing.Listing.of.Goals as goal

pub of-requires-clause-once : goal.of-requires-clause-once
of-requires-clause-once c = subst (λ (ls : List Lines). DefineOnce (map line_view ls)) (sym c.deref.ensures.value) c.requires.once
