-- Whether a rule may be used on a window.
use Rattle.std.specs.Prelude.{◌≡◌, ℕ, ◌+◌, ◌-◌, ◌<◌, ◌≤◌, ◌↔◌, ◌||◌, ◌&&◌, not, nat_lt, Bool, true, false, List, length, map, take, Option, Some, slice_get, ◌⊎◌}
use Rattle.thumb_instr.specs.declared.instr.Instr.{Instr}
use Rattle.thumb_instr.specs.Items.{has}
use Rattle.thumb_instr.specs.Window.{Low, renamed, item_under}
use Rattle.thumb_model.specs.Flow.{LiveAfter}
use Rattle.thumb_model.specs.Effect.{one_of, IsOneToOne, register_count, normalised}
use Rattle.thumb_model.specs.Listing.{ListingLine, code_of}
use Rattle.rule_model.specs.Rules.{Rule, rule_at, rule_registers}
use Rattle.rule_table.specs.Canonical.{IsRenamable, IsCanonical}
use Rattle.seq_enum.specs.Costs.{weight_under}
use Rattle.thumb_model.specs.Replaced.{IsWindow}
use Rattle.window_rewrite.specs.declared.forms.Form.{Form}
use Rattle.window_rewrite.specs.declared.left_side_hashes.LeftSideHashes.{LeftSideHashes}
use Rattle.window_rewrite.specs.Forms.{form_of}
use Rattle.window_rewrite.specs.Rules.{IsNoted}
use Rattle.window_rewrite.specs.Hashes.{seen}

-- the instructions are a window at the place, after which these items are live
pub record StandsThere (lines : List ListingLine) (place : ℕ) (window : List Instr) (items : ℕ) : Type 0 where
  pub is_window : IsWindow lines place window
  pub live : (x : ℕ) → (has items x ≡ true) ↔ LiveAfter (code_of lines) (place + length window - 1) x

-- the window, normal, is the rule's left side under the map, which is one to one
pub record Stands (rule : Rule) (registers : List Low) (window : List Instr) : Type 0 where
  pub as_many : length registers ≡ register_count rule.left
  pub one_to_one : IsOneToOne registers
  pub matches : map normalised window ≡ map (renamed registers) rule.left

-- it stands there, and its right side weighs less
pub record Lightens (costs : Option (List ℕ)) (rule : Rule) (registers : List Low) (window : List Instr) : Type 0 where
  pub stands : Stands rule registers window
  pub lighter : weight_under costs rule.right < weight_under costs rule.left

-- of the rules of the table none whose right side weighs less stands in the window
abbrev pub NoneStands : Option (List ℕ) → List (List Rule) → List Instr → Type 0
NoneStands costs table window = (k i : ℕ) (rule : Rule) (registers : List Low) → rule_at table k i ≡ Some rule → Lightens costs rule registers window → ⊥

-- and none with a left side of more than `count` instructions stands first in the run
abbrev pub NoneReaches : Option (List ℕ) → List (List Rule) → List Instr → ℕ → Type 0
NoneReaches costs table run count = (n k i : ℕ) (rule : Rule) (registers : List Low) → count < length rule.left → rule_at table k i ≡ Some rule → Lightens costs rule registers (take n run) → ⊥

-- no marked side of more than `low` instructions stands first in the run, which is taken as it is or with 0 for 8-bit numbers
abbrev pub NoneMarked : LeftSideHashes → Bool → List Instr → ℕ → Type 0
NoneMarked marks hidden run low = (n : ℕ) (side : List Instr) (registers : List Low) → low < length side → IsNoted marks side → map (seen hidden) (take n run) ≡ map (renamed registers) side → ⊥

-- no marked side of more than `low` instructions, but at most `high`, does
abbrev pub NoneBetween : LeftSideHashes → Bool → List Instr → ℕ → ℕ → Type 0
NoneBetween marks hidden run low high = (n : ℕ) (side : List Instr) (registers : List Low) → low < length side → length side ≤ high → IsNoted marks side → map (seen hidden) (take n run) ≡ map (renamed registers) side → ⊥

-- the item may be live: the mask has it under the map, or it is a register outside the map
abbrev pub is_allowed : List ℕ → List Low → ℕ → Bool
is_allowed mask registers x = one_of x (map (item_under registers) mask) || (nat_lt x 15 && not (one_of x (map (λ r. r.number) registers)))

-- by the window and the items that are live after it the rule may be used, if a scratch register isn't looked at
pub record Fits (rule : Rule) (registers : List Low) (window : List Instr) (live : ℕ) : Type 0 where
  pub stands : Stands rule registers window
  pub allowed : (x : ℕ) → has live x ≡ true → is_allowed rule.mask registers x ≡ true

-- ---- the scratch register ----

-- of the registers of a rule those that its left side names
abbrev pub left_registers : Rule → List Low → List Low
left_registers rule registers = take (register_count rule.left) registers

-- one for each register of a rule; a scratch register is none of the left side's, and not live
pub record AreWhole (rule : Rule) (registers : List Low) (live : ℕ) : Type 0 where
  pub as_many : length registers ≡ rule_registers rule
  pub free : (scratch : Low) → slice_get registers (register_count rule.left) ≡ Some scratch → (one_of scratch.number (map (λ r. r.number) (left_registers rule registers)) ≡ false) × (has live scratch.number ≡ false)

-- each register below the scratch register is one of the left side's or live
abbrev pub IsScratchLeast : Rule → List Low → ℕ → Type 0
IsScratchLeast rule registers live = (scratch : Low) → slice_get registers (register_count rule.left) ≡ Some scratch → (x : ℕ) → x < scratch.number → (one_of x (map (λ r. r.number) (left_registers rule registers)) ≡ true) ⊎ (has live x ≡ true)

-- with all its registers the rule may be used
pub record FitsWhole (rule : Rule) (registers : List Low) (window : List Instr) (live : ℕ) : Type 0 where
  pub fits : Fits rule (left_registers rule registers) window live
  pub whole : AreWhole rule registers live

-- all registers of a rule whose left side has the registers `own`: these, and, if it needs one, the least scratch register that is free
pub record IsWholeOf (rule : Rule) (own : List Low) (live : ℕ) (registers : List Low) : Type 0 where
  pub front : left_registers rule registers ≡ own
  pub whole : AreWhole rule registers live
  pub least : IsScratchLeast rule registers live
  pub few : length registers ≤ 8

-- ---- the form of a window ----

-- the form of a window: the window's canonical form with its registers, its live items by its own names and by the form's, and the hash of the form
pub record IsForm (window : List Instr) (f : Form) : Type 0 where
  pub renamable : IsRenamable window
  pub canonical : IsCanonical window f.live.bits f.side (map Some f.registers.items) f.mask.items.bits
  pub number : f.number ≡ form_of f.side
