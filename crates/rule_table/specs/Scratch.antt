-- Registers that are free to be a scratch register: those that aren't in the map and aren't live.
use Rattle.std.specs.Prelude.{◌≡◌, ◌<◌, ℕ, ◌==◌, ◌&&◌, not, Bool, true, false, List, Option, Some, None}
use Rattle.std.specs.List.{list_any}
use Rattle.thumb_instr.specs.Items.{has}
use Rattle.thumb_instr.specs.Window.{Low}

-- whether the register given in place of some other is x
abbrev pub is_register : ℕ → Option Low → Bool
is_register x None = false
is_register x (Some r) = x == r.number

-- whether a map has x in place of some register
abbrev pub has_register : List (Option Low) → ℕ → Bool
has_register given x = list_any (is_register x) given

-- a register is free if it is neither in the map nor live
abbrev pub is_free : List (Option Low) → ℕ → ℕ → Bool
is_free given live x = not (has live x) && not (has_register given x)

-- the register is free, and no lower one is
pub record IsLeastFree (given : List (Option Low)) (live x : ℕ) : Type 0 where
  pub free : is_free given live x ≡ true
  pub least : (y : ℕ) → y < x → is_free given live y ≡ false
