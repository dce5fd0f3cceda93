use Rattle.std.proofs.Common.{◌≡◌, ◌++◌, ℕ, List, drop, map}
use Rattle.thumb_machine.specs.Naming.{naming_of}
use Rattle.thumb_machine.specs.Walking.{all_pass, name_points}
use Rattle.thumb_machine.proofs.naming.Naming.names_pass.Given as goal

abbrev pub invariant-loop-name : goal.invariant-loop-name
invariant-loop-name g l =
    (rest : List (ℕ × ℕ)) → all_pass g.T.PointTest.passes g.T.PointTest.after l.test (name_points (naming_of l.self) l.place (map (λ name. name.items) (drop l.name-index l.names)) ++ rest)
    ≡ all_pass g.T.PointTest.passes g.T.PointTest.after l.fn.test (name_points (naming_of l.self) l.place (map (λ name. name.items) l.names) ++ rest)
