use Rattle.std.proofs.Common.{◌≡◌, ◌++◌, ℕ, List, drop, map, nat_eq}
use Rattle.std.specs.HashMap.{get}
use Rattle.thumb_model.specs.Steps.{point_among}
use Rattle.thumb_machine.specs.Making.{merged}
use Rattle.thumb_machine.specs.Naming.{naming_of}
use Rattle.thumb_machine.specs.Walking.{name_points}
use Rattle.thumb_machine.proofs.points.add_names.Given as goal

abbrev pub invariant-loop-name : goal.invariant-loop-name
invariant-loop-name l =
    (w : ℕ) (rest : List (ℕ × ℕ))
    → merged (get nat_eq l.points w) (point_among w (name_points (naming_of l.naming) l.place (map (λ name. name.items) (drop l.name-index l.names)) ++ rest))
    ≡ merged (get nat_eq l.fn.points w) (point_among w (name_points (naming_of l.naming) l.place (map (λ name. name.items) l.names) ++ rest))
