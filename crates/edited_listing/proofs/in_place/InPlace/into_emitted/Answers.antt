use Rattle.std.proofs.Common.{◌∙◌, ◌++◌, List, map, take, ap, sym}
use Rattle.std.proofs.lemmas.List.{map-append, take-map}
use Rattle.thumb_model.specs.Listing.{ListingLine}
use Rattle.listing_parser.specs.declared.line.ListingLine.{ListingLine as Lines}
use Rattle.listing_parser.specs.Views.{line_view}
use Rattle.edited_listing.specs.Progress.{Progress}
use Rattle.edited_listing.proofs.in_place.InPlace.into_emitted.Goals as goal

pub returns : goal.returns
returns c =
    let ws : List Lines = c.self.inside.waiting.items in
    ap (map line_view) (c.in_ok-append.ensures.items ∙ ap (λ (l : List Lines). l ++ ws) c.truncate.ensures.items) ∙ map-append line_view (take c.self.inside.done c.self.inside.lines.items) ws
    ∙ ap (λ (l : List ListingLine). l ++ map line_view ws) (sym (take-map line_view c.self.inside.done c.self.inside.lines.items)) ∙ ap (λ (p : Progress). p.emitted) c.self.view_is
