-- When a window is a left side with its registers renamed, and the map that does it, of which there is at most one.
use Rattle.std.specs.Prelude.{◌≡◌, ℕ, true, List, [], ◌∷◌, length, map, slice_get, Option, None, if◌then◌else◌}
use Rattle.std.specs.List.{flat_map, list_all}
use Rattle.thumb_instr.specs.declared.instr.Instr.{Instr}
use Rattle.thumb_instr.specs.Window.{is_in_window, normal_of, Low, named, renamed, item_under}
use Rattle.rule_table.specs.Canonical.{has}

-- the registers that instructions name, in the order in which their texts do
abbrev pub registers_in : List Instr → List ℕ
registers_in instrs = flat_map named instrs

-- with these registers in place of r0 to r7 the left side is the instructions, and no two registers that it names are replaced by the same one
pub record Renames (left normal : List Instr) (registers : List Low) : Type 0 where
  pub all : length registers ≡ 8
  pub under : map (renamed registers) left ≡ normal
  pub one_to_one : (x y : ℕ) → has (registers_in left) x ≡ true → has (registers_in left) y ≡ true → item_under registers x ≡ item_under registers y → x ≡ y

-- with these registers the left side is the normal form of the window
pub record Matches (left window : List Instr) (registers : List Low) : Type 0 where
  pub windows : list_all is_in_window window ≡ true
  pub renames : Renames left (map normal_of window) registers

-- r0 to r7
abbrev pub eight : List ℕ
eight = 0 ∷ 1 ∷ 2 ∷ 3 ∷ 4 ∷ 5 ∷ 6 ∷ 7 ∷ []

-- the register in place of x, if the left side names x
abbrev pub given_for : List ℕ → List Low → ℕ → Option Low
given_for names registers x = if has names x then slice_get registers x else None

-- the map has a register in place of each that the left side names, and no others
pub record IsMapOf (left window : List Instr) (given : List (Option Low)) : Type 0 where
  pub registers : List Low
  pub matches : Matches left window registers
  pub is : given ≡ map (given_for (registers_in left) registers) eight

-- there is at most one such map
abbrev pub OneMap : Type 0
OneMap = (left window : List Instr) (given other : List (Option Low)) → IsMapOf left window given → IsMapOf left window other → given ≡ other
