use Rattle.std.proofs.Common.{◌≡◌, ◌≤◌, ◌++◌, ℕ, List, drop, nat_eq}
use Rattle.std.specs.HashMap.{get}
use Rattle.thumb_model.specs.Listing.{places_of}
use Rattle.thumb_model.specs.Naming.{returns_from}
use Rattle.thumb_model.specs.Steps.{point_among}
use Rattle.thumb_machine.specs.Making.{merged}
use Rattle.thumb_machine.specs.Naming.{naming_of}
use Rattle.thumb_machine.proofs.points.add_returns.Given as goal

abbrev pub invariant-loop-place : goal.invariant-loop-place
invariant-loop-place l = record {
  few : l.calls ≤ l.place;
  completes : (w : ℕ) (rest : List (ℕ × ℕ))
      → merged (get nat_eq l.points w) (point_among w (returns_from (naming_of l.naming) l.calls l.place (drop l.place (places_of l.listing)) ++ rest))
      ≡ merged (get nat_eq l.fn.points w) (point_among w (returns_from (naming_of l.naming) 0 0 (places_of l.listing) ++ rest));
}
