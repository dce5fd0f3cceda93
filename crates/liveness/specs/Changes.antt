-- Live sets of lines in which instructions gave way to others.
use Rattle.std.specs.Prelude.{◌≡◌, ℕ, ◌+◌, ◌-◌, ◌≤◌, true, false, List, length, take, drop, map, Some, slice_get, ◌⊎◌}
use Rattle.std.specs.List.{list_all}
use Rattle.thumb_instr.specs.declared.instr.Instr.{Instr}
use Rattle.thumb_instr.specs.Window.{is_in_window}
use Rattle.thumb_instr.specs.declared.items.Items.{Items}
use Rattle.thumb_instr.specs.Items.{has}
use Rattle.thumb_model.specs.Listing.{plain, Code, Label, ListingLine, code_of, is_code, labels_from, places_of}
use Rattle.thumb_model.specs.Replaced.{move_label, replaced, replaced_lines}
use Rattle.liveness.specs.declared.flowing.Flow.{Flow}
use Rattle.liveness.specs.Kept.{AreFlowsFrom}
use Rattle.liveness.specs.Live.{Sets, IsLive}
use Rattle.liveness.specs.Through.{live_through, nothing, read_along}

-- the sets are those of lines in which `old` instructions of windows stood at the place where `new` such instructions stand now: no label stood among them, and each code label is still code
pub record WasLive (lines : List ListingLine) (place old new : ℕ) (sets : Sets) : Type 0 where
  pub before : List ListingLine
  pub window : List Instr
  pub instrs : List Instr
  pub write : Instr → List ℕ
  pub live : IsLive (code_of before) sets
  pub some : 1 ≤ old
  pub few : new ≤ old
  pub old_many : length window ≡ old
  pub new_many : length instrs ≡ new
  pub stood : take old (drop place (places_of before)) ≡ map plain window
  pub in_window : list_all is_in_window window ≡ true
  pub new_in_window : list_all is_in_window instrs ≡ true
  pub unlabelled : (k : ℕ) (l : Label) → slice_get (labels_from 0 before) k ≡ Some l → (l.place ≤ place) ⊎ (place + old ≤ l.place)
  pub labels_stay : (k : ℕ) (l : Label) → slice_get (labels_from 0 before) k ≡ Some l → is_code (places_of before) l ≡ true → is_code (replaced (code_of before) place old instrs).places (move_label place (old - new) l) ≡ true
  pub is : lines ≡ replaced_lines write place old instrs before

-- each of the items is read in straight code before it is written, or by the flows of some places from `behind` on
pub record AreReadFrom (code : Code) (instrs : List Instr) (items : Items) (behind : ℕ) : Type 0 where
  pub ahead : List Flow
  pub flows : AreFlowsFrom code behind ahead
  pub read : (x : ℕ) → has items.bits x ≡ true → live_through instrs nothing x ≡ false → read_along ahead x ≡ true
