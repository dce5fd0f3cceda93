-- Flows of places, and the sets of live items across a replacement.
use Rattle.std.specs.Prelude.{◌≡◌, ℕ, ◌+◌, ◌-◌, ◌<◌, ◌≤◌, true, List, [], ◌∷◌, ◌++◌, length, take, drop, map, Option, Some, None, slice_get, ◌⊎◌}
use Rattle.std.specs.List.{list_all}
use Rattle.thumb_instr.specs.declared.instr.Instr.{Instr}
use Rattle.thumb_instr.specs.declared.items.Items.{Items}
use Rattle.thumb_instr.specs.Items.{one_of, has}
use Rattle.thumb_instr.specs.Window.{is_in_window}
use Rattle.thumb_model.specs.Listing.{plain, Label, Code, is_code}
use Rattle.thumb_model.specs.Flow.{Way, Leads, Onward, ToPlace, AnyPoint, Out, ways}
use Rattle.thumb_model.specs.Replaced.{move_label, replaced}
use Rattle.shrinking_sets.specs.Marks.{some_reads}
use Rattle.liveness.specs.declared.flowing.Flow.{Flow}
use Rattle.liveness.specs.declared.kept.NewSets.{NewSets}
use Rattle.liveness.specs.Live.{Sets}

-- ---- flows ----

-- what the way writes that goes straight to the next place, where one does
abbrev pub if_onward : Leads → List ℕ → Option (List ℕ) → Option (List ℕ)
if_onward Onward writes rest = Some writes
if_onward (ToPlace q) writes rest = rest
if_onward AnyPoint writes rest = rest
if_onward Out writes rest = rest

abbrev pub onward_writes : List Way → Option (List ℕ)
onward_writes [] = None
onward_writes (w ∷ ws) = if_onward w.leads w.writes (onward_writes ws)

-- the set has just the items of the list, or there is neither
abbrev pub HasThese : Option (List ℕ) → Option Items → Type 0
HasThese None None = Unit {0}
HasThese (Some list) (Some set) = (x : ℕ) → has set.bits x ≡ one_of x list
HasThese None (Some set) = ⊥
HasThese (Some list) None = ⊥

-- the flow of a place with these ways
pub record FlowOf (ws : List Way) (f : Flow) : Type 0 where
  pub reads : (x : ℕ) → has f.reads.bits x ≡ some_reads ws x
  pub onward : HasThese (onward_writes ws) f.onward

-- the flows of places from q on
abbrev pub AreFlowsFrom : Code → ℕ → List Flow → Type 0
AreFlowsFrom code q fs = (k : ℕ) (f : Flow) → slice_get fs k ≡ Some f → FlowOf (ways code (q + k)) f

-- ---- a replacement ----

-- the window stands from p on, and may give way to the new instructions, which are fewer: no label stands within it, and each code label is still code
pub record KeepsAt (code : Code) (p : ℕ) (window new : List Instr) : Type 0 where
  pub stands : take (length window) (drop p code.places) ≡ map plain window
  pub in_window : list_all is_in_window window ≡ true
  pub new_in_window : list_all is_in_window new ≡ true
  pub shorter : length new < length window
  pub unlabelled : (k : ℕ) (l : Label) → slice_get code.labels k ≡ Some l → (l.place ≤ p) ⊎ (p + length window ≤ l.place)
  pub labels_stay : (k : ℕ) (l : Label) → slice_get code.labels k ≡ Some l → is_code code.places l ≡ true → is_code (replaced code p (length window) new).places (move_label p (length window - length new) l) ≡ true

-- the sets, with new ones in place of those of `count` places from p on
abbrev pub replaced_sets : ℕ → ℕ → List NewSets → Sets → Sets
replaced_sets p count new sets = record {
  before = take p sets.before ++ (map (λ n. n.before) new ++ drop (p + count) sets.before);
  after = take p sets.after ++ (map (λ n. n.after) new ++ drop (p + count) sets.after);
}
