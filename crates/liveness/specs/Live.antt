-- The items that are live before and after places, as sets.
use Rattle.std.specs.Prelude.{◌≡◌, ℕ, ◌<◌, true, List, length, Option, Some, None, slice_get, ◌↔◌}
use Rattle.thumb_instr.specs.declared.items.Items.{Items}
use Rattle.thumb_instr.specs.Items.{has}
use Rattle.thumb_model.specs.Listing.{Code}
use Rattle.thumb_model.specs.Flow.{Reads, LiveAfter}

-- the bits of the set at a place
abbrev pub word_of : Option Items → ℕ
word_of None = 0
word_of (Some s) = s.bits

abbrev pub set_at : List Items → ℕ → ℕ
set_at sets p = word_of (slice_get sets p)

-- the sets before and after each place
pub record Sets : Type 0 where
  pub before : List Items
  pub after : List Items

-- an item is in the set before a place exactly where a path from there reads it before it is written, and in the set after a place exactly where it is live after it
pub record IsLive (code : Code) (sets : Sets) : Type 0 where
  pub before_len : length sets.before ≡ length code.places
  pub after_len : length sets.after ≡ length code.places
  pub before : (p x : ℕ) → p < length code.places → (has (set_at sets.before p) x ≡ true) ↔ Reads code x p
  pub after : (p x : ℕ) → p < length code.places → (has (set_at sets.after p) x ≡ true) ↔ LiveAfter code p x
