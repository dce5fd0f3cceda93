use Rattle.std.proofs.Common.{◌∙◌, ℕ, List, length, map, ap}
use Rattle.thumb_model.specs.Listing.{ListingLine, places_of}
use Rattle.listing_parser.specs.Views.{line_view}
use Rattle.label_layout.proofs.Sums.{places_counted}
use Rattle.label_layout.proofs.laying.layout.Goals as goal

pub returns-in-None-clause-counted : goal.returns-in-None-clause-counted
returns-in-None-clause-counted c =
    ap (λ (xs : List ℕ). length xs) c.in_ok-laid.ensures.laid.places ∙ places_counted c.in_ok-laid.laid.base (map line_view c.lines.result.now) ∙ ap (λ (ls : List ListingLine). length (places_of ls)) c.lines.ensures
