use Rattle.std.proofs.Common.{◌≡◌, ◌∙◌, length, ap, arith, map, List}
use Rattle.thumb_model.specs.Listing.{ListingLine, places_of}
use Rattle.listing_parser.specs.Views.{line_view}
use Rattle.listing_parser.specs.declared.index.Spot.{Spot}
use Rattle.listing_parser.proofs.SpotLemmas.{spots_length}
use Rattle.listing_parser.proofs.listing.Listing.place_count.Goals as goal

pub overflow_cast-result : goal.overflow_cast-result
overflow_cast-result c =
    let few = c.self.invariant.few in
    let all : length c.self.inside.index.spots.items ≡ length (places_of (map line_view c.self.inside.lines.items)) = ap (λ (xs : List Spot). length xs) c.self.invariant.spots ∙ spots_length 0 (map line_view c.self.inside.lines.items) in
    omega (arith, c.self.inside.index.spots.ok)

pub returns : goal.returns
returns c =
    let all : length c.self.inside.index.spots.items ≡ length (places_of (map line_view c.self.inside.lines.items)) = ap (λ (xs : List Spot). length xs) c.self.invariant.spots ∙ spots_length 0 (map line_view c.self.inside.lines.items) in
    let same = ap (λ (ls : List ListingLine). length (places_of ls)) c.self.view_is in
    omega (arith, c.self.inside.index.spots.ok)
