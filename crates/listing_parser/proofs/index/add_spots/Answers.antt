use Rattle.std.proofs.Common.{◌∙◌, ◌++◌, ◌∷◌, [], ◌+◌, ◌<◌, List, length, sym, ap, arith, refl, append_assoc}
use Rattle.thumb_model.specs.Listing.{places_in}
use Rattle.listing_parser.specs.Views.{statement_view}
use Rattle.listing_parser.specs.declared.index.Spot.{Spot}
use Rattle.listing_parser.proofs.SpotLemmas.{spots_step}
use Rattle.listing_parser.proofs.index.add_spots.Goals as goal

pub loop-item-preserved : goal.loop-item-preserved
loop-item-preserved c =
    let within : c.loop-item.item < length (places_in (statement_view c.args.statement.now)) = omega (arith, c.loop-item-test.true, c.places-item-end.ensures) in
    let step = spots_step c.args.line c.loop-item.item c.loop-item.item (c.loop-item.item + 1) (places_in (statement_view c.args.statement.now)) within refl in
    rw c.in_ok-push.ensures.items
    (append_assoc c.loop-item.spots.items (record { line = c.args.line; item = c.loop-item.item } ∷ []) _
    ∙ ap (λ (ss : List Spot). c.loop-item.spots.items ++ ss) (sym step)
    ∙ c.loop-item.invariant)
