use Rattle.std.proofs.Common.{◌≡◌, ◌∙◌, ◌++◌, [], ℕ, List, Option, None, map, nat_eq, sym, ap, append-nil}
use Rattle.std.specs.Map.{lookup}
use Rattle.std.specs.HashMap.{get}
use Rattle.thumb_model.specs.Listing.{ListingLine, labels_from, places_of}
use Rattle.thumb_model.specs.Naming.{points_of, returns_from}
use Rattle.thumb_model.specs.Steps.{point_among}
use Rattle.listing_parser.specs.Views.{line_view}
use Rattle.thumb_machine.specs.Making.{merged}
use Rattle.thumb_machine.specs.Naming.{naming_of}
use Rattle.thumb_machine.proofs.PointsMade.{merged_none}
use Rattle.thumb_machine.proofs.points.points_of.Goals as goal

pub returns : goal.returns
returns c = λ w.
    let names = naming_of c.args.naming.now in
    let places = places_of c.args.listing.now in
    let returns : List (ℕ × ℕ) = returns_from names 0 0 places in
    let none : get nat_eq c.new-found.result w ≡ None = ap (λ (es : List (ℕ × ℕ)). lookup (nat_eq w) es) c.new-found.ensures.empty in
    sym (merged_none (get nat_eq c.add_returns.new.points w))
    ∙ c.in_ok-add_returns.ensures w []
    ∙ ap (λ (xs : List (ℕ × ℕ)). merged (get nat_eq c.add_labels.new.points w) (point_among w xs)) (append-nil returns)
    ∙ c.in_ok-add_labels.ensures w returns
    ∙ ap (λ (o : Option ℕ). merged o (point_among w (points_of names places (labels_from 0 (map line_view c.lines.result.now)) ++ returns))) none
    ∙ ap (λ (ls : List ListingLine). point_among w (points_of names places (labels_from 0 ls) ++ returns)) c.lines.ensures
