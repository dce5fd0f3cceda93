use Rattle.std.proofs.Common.{◌≡◌, ◌+◌, ◌∙◌, ◌++◌, ◌∷◌, ℕ, List, drop, length, map, nat_eq, arith, ap, rules, sym}
use Rattle.std.proofs.lemmas.Grind.{common_steps}
use Rattle.std.specs.HashMap.{get}
use Rattle.thumb_model.specs.Listing.{ListingLine, labels_at, labels_from, places_in, places_of}
use Rattle.thumb_model.specs.Naming.{points_of}
use Rattle.thumb_model.specs.Steps.{point_among}
use Rattle.listing_parser.specs.Views.{line_view}
use Rattle.thumb_machine.specs.Making.{merged}
use Rattle.thumb_machine.specs.Naming.{naming_of}
use Rattle.thumb_machine.proofs.PointsMade.{labels_next}
use Rattle.thumb_machine.proofs.points.add_labels.Goals as goal

pub loop-line-preserved : goal.loop-line-preserved
loop-line-preserved c =
    let behind : List ListingLine = map line_view (drop (c.loop-line.line-index + 1) c.args.lines.now) in
    let tail : map line_view (drop c.loop-line.line-index c.args.lines.now) ≡ line_view c.line-item.result ∷ behind = grind (arith, common_steps) in
    let size : c.places-place.result ≡ length (places_in (line_view c.line-item.result).statement) = search rules in
    let names = naming_of c.args.naming.now in
    let places = places_of c.args.listing.now in
    record {
      places = grind (arith, common_steps);
      completes = λ w rest.
          let others : List (ℕ × ℕ) = points_of names places (labels_from (c.loop-line.place + c.places-place.result) behind) ++ rest in
          let here : merged (get nat_eq c.add_line.new.points w) (point_among w others) ≡ merged (get nat_eq c.loop-line.points w) (point_among w (points_of names places (labels_at c.loop-line.place (line_view c.line-item.result).names) ++ others)) =
          rw c.as_slice.ensures.value at (c.in_ok-add_line.ensures w others) in
          let next : point_among w (points_of names places (labels_at c.loop-line.place (line_view c.line-item.result).names) ++ others) ≡ point_among w (points_of names places (labels_from c.loop-line.place (map line_view (drop c.loop-line.line-index c.args.lines.now))) ++ rest) =
          ap (λ (n : ℕ). point_among w (points_of names places (labels_at c.loop-line.place (line_view c.line-item.result).names) ++ (points_of names places (labels_from (c.loop-line.place + n) behind) ++ rest))) size
          ∙ labels_next w names places c.loop-line.place (line_view c.line-item.result) behind rest
          ∙ ap (λ (ls : List ListingLine). point_among w (points_of names places (labels_from c.loop-line.place ls) ++ rest)) (sym tail) in
          here ∙ ap (λ o. merged (get nat_eq c.loop-line.points w) o) next ∙ c.loop-line.invariant.completes w rest;
    }
