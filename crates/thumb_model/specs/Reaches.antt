-- The layout accepts exactly the distances that an encoding's field holds.
use Rattle.std.specs.Prelude.{◌≡◌, ◌↔◌, ℕ, ◌+◌, ◌*◌, ◌%◌, ◌<◌, Some, None}
use Rattle.thumb_instr.specs.Items.{IsDistance}
use Rattle.thumb_model.specs.Layout.{branch_fault, distance, literal_base, literal_fault}

-- a branch has no fault exactly where a field holds its distance
abbrev pub BranchesReach : Type 0
BranchesReach = (half at to : ℕ) → at % 2 ≡ 0 → to % 2 ≡ 0 → (branch_fault half at (Some to) ≡ None) ↔ IsDistance half (distance at to)

-- a literal has no fault exactly where it lies a number of words below 256 past the rounded address
abbrev pub LiteralsReach : Type 0
LiteralsReach = (at to plus : ℕ) → (literal_fault at (Some to) plus ≡ None) ↔ ((field : ℕ) × (field < 256) × (to + plus ≡ literal_base at + 4 * field))

pub record ReachesAreFields : Type 0 where
  pub branches : BranchesReach
  pub literals : LiteralsReach
