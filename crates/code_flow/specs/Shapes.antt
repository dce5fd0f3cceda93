-- The first way of an instruction against its shape.
use Rattle.std.specs.Prelude.{◌≡◌, ℕ, Bool, true, false, Option, Some, IsSome, slice_get}
use Rattle.thumb_instr.specs.declared.instr.Instr.{Instr}
use Rattle.thumb_instr.specs.declared.instr.Instr.TheVariants as instr
use Rattle.thumb_instr.specs.Shape.{uses_of, writes_of}
use Rattle.thumb_model.specs.Flow.{Way, ways_of}

-- a direct branch or call
abbrev pub names_target : Instr → Bool
names_target (instr.BranchIf c d) = true
names_target (instr.Branch d) = true
names_target (instr.Call d) = true
names_target i = false

-- a direct branch that goes to a place of the listing, and any other instruction, reads and writes by its first way what its shape says
abbrev pub FirstWayIsShape : Type 0
FirstWayIsShape =
    (aim : Option ℕ) (i : Instr) (w : Way) → (names_target i ≡ true → IsSome aim) → slice_get (ways_of aim i) 0 ≡ Some w → (w.reads ≡ uses_of i) × (w.writes ≡ writes_of i)
