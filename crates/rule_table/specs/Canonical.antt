-- The canonical form of windows: their registers are renamed in order of first appearance.
use Rattle.std.specs.Prelude.{◌≡◌, ◌<◌, ◌≤◌, ℕ, suc, ◌==◌, ◌&&◌, ◌||◌, Bool, true, false, List, [], ◌∷◌, ◌++◌, length, map, slice_get, Option, Some, None, if◌then◌else◌}
use Rattle.std.specs.List.{flat_map, list_any, list_all}
use Rattle.thumb_instr.specs.declared.instr.Instr.{Instr}
use Rattle.thumb_instr.specs.Items.{has as has_item, is_in_masks}
use Rattle.thumb_instr.specs.Window.{is_in_window, normal_of, Low, named, renamed, AreBelow}

abbrev pub has : List ℕ → ℕ → Bool
has xs x = list_any (λ y. y == x) xs

abbrev pub with_first : List ℕ → ℕ → List ℕ
with_first seen r = if has seen r then seen else seen ++ r ∷ []

-- the registers seen, then each other one once, in order of first appearance
unfoldable pub firsts : List ℕ → List ℕ → List ℕ
firsts seen [] = seen
firsts seen (r ∷ rs) = firsts (with_first seen r) rs

-- the index at which a register first stands; the length if it doesn't
unfoldable pub name_in : List ℕ → ℕ → ℕ
name_in [] r = 0
name_in (x ∷ xs) r = if x == r then 0 else suc (name_in xs r)

abbrev pub numbers_of : List Low → List ℕ
numbers_of registers = map (λ r. r.number) registers

-- the registers that instructions name, in order of first appearance
abbrev pub appearing : List Instr → List ℕ
appearing instrs = firsts [] (flat_map named instrs)

-- one to five instructions that may stand in windows and whose normal forms name at most four registers
pub record IsRenamable (window : List Instr) : Type 0 where
  pub some : 0 < length window
  pub few : length window ≤ 5
  pub windows : list_all is_in_window window ≡ true
  pub registers : length (appearing (map normal_of window)) ≤ 4

-- whether one of the items is the register that has this name
abbrev pub register_has : ℕ → Option ℕ → Bool
register_has items None = false
register_has items (Some r) = has_item items r

-- the items under their new names: a register's is its index in the order, a flag's its own
abbrev pub masked : ℕ → List ℕ → ℕ → Bool
masked items order x =
    (register_has items (slice_get order 0) && (x == 0) || register_has items (slice_get order 1) && (x == 1)
    || register_has items (slice_get order 2) && (x == 2) || register_has items (slice_get order 3) && (x == 3)
    || has_item items 15 && (x == 15) || has_item items 16 && (x == 16) || has_item items 17 && (x == 17) || has_item items 18 && (x == 18)) && is_in_masks x

-- the sequence is the normal form of the window with r0, r1 and so on in place of its registers, in order of their first appearance
pub record IsCanonical (window : List Instr) (items : ℕ) (seq : List Instr) (given : List (Option Low)) (mask : ℕ) : Type 0 where
  pub registers : List Low
  pub is_given : given ≡ map Some registers
  pub order : numbers_of registers ≡ appearing (map normal_of window)
  pub under : map (renamed registers) seq ≡ map normal_of window
  pub below : AreBelow (length registers) (flat_map named seq)
  pub masks : (x : ℕ) → has_item mask x ≡ masked items (numbers_of registers) x
