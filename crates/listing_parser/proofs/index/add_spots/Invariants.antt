use Rattle.std.proofs.Common.{◌≡◌, ◌++◌, drop}
use Rattle.thumb_model.specs.Listing.{places_in}
use Rattle.listing_parser.specs.Views.{statement_view}
use Rattle.listing_parser.specs.TableWords.{spots_at}
use Rattle.listing_parser.proofs.index.add_spots.Given as goal

abbrev pub invariant-loop-item : goal.invariant-loop-item
invariant-loop-item l = l.spots.items ++ spots_at l.line l.item (drop l.item (places_in (statement_view l.statement))) ≡ l.initial.spots.items ++ spots_at l.line 0 (places_in (statement_view l.statement))
