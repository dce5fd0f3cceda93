-- Instructions that give way to others, where labels stay code.
use Rattle.std.specs.Prelude.{◌≡◌, ℕ, ◌+◌, ◌-◌, ◌<◌, ◌≤◌, true, List, length, take, drop, map, Some, slice_get, ◌⊎◌}
use Rattle.std.specs.List.{list_all}
use Rattle.thumb_instr.specs.declared.instr.Instr.{Instr}
use Rattle.thumb_instr.specs.Window.{is_in_window}
use Rattle.thumb_model.specs.Listing.{plain, Place, Label, Code, is_code, is_op_place}
use Rattle.thumb_model.specs.Replaced.{move_label, replaced}

-- no label stands at the place
abbrev pub NoLabelAt : List Label → ℕ → Type 0
NoLabelAt labels p = (k : ℕ) (l : Label) → slice_get labels k ≡ Some l → l.place ≡ p → ⊥

-- where `count` instructions from p on give way to others, labels stay code: one of these comes to stand there, or an instruction follows, or no label needs one
abbrev pub IsSettled : List Place → List Label → ℕ → ℕ → List Instr → Type 0
IsSettled places labels p count is = (0 < length is) ⊎ ((is_op_place (slice_get places (p + count)) ≡ true) ⊎ NoLabelAt labels p)

-- the window stands from p on, and may give way to the new instructions, which are no more: no label stands within it, and each code label is still code
pub record MayGiveWay (code : Code) (p : ℕ) (window new : List Instr) : Type 0 where
  pub stands : take (length window) (drop p code.places) ≡ map plain window
  pub in_window : list_all is_in_window window ≡ true
  pub new_in_window : list_all is_in_window new ≡ true
  pub some : 0 < length window
  pub no_longer : length new ≤ length window
  pub unlabelled : (k : ℕ) (l : Label) → slice_get code.labels k ≡ Some l → (l.place ≤ p) ⊎ (p + length window ≤ l.place)
  pub labels_stay : (k : ℕ) (l : Label) → slice_get code.labels k ≡ Some l → is_code code.places l ≡ true → is_code (replaced code p (length window) new).places (move_label p (length window - length new) l) ≡ true
