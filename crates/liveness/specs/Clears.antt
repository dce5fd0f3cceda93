-- The invariant of clearing items backwards from a window that gives way.
use Rattle.std.specs.Prelude.{◌≡◌, ℕ, ◌+◌, ◌<◌, ◌≤◌, ◌&&◌, ◌||◌, not, Bool, true, false, List, length, Option, ◌⊎◌}
use Rattle.thumb_instr.specs.declared.instr.Instr.{Instr}
use Rattle.thumb_instr.specs.declared.items.Items.{Items}
use Rattle.thumb_instr.specs.Items.{one_of, has}
use Rattle.thumb_model.specs.Listing.{Code}
use Rattle.shrinking_sets.specs.Straight.{reads_first, writes_in, IsExchange}
use Rattle.shrinking_sets.specs.Clearing.{IsClearing}
use Rattle.code_flow.specs.declared.way.Ways.{Ways}
use Rattle.liveness.specs.declared.graph.Graph.{Graph}
use Rattle.liveness.specs.Live.{set_at}
use Rattle.kept_places.specs.Marks.{marked}
use Rattle.liveness.specs.Graph.{ways_at, AreReturns, IsGraph}
use Rattle.liveness.specs.declared.counted.PointSets.{PointSets}
use Rattle.liveness.specs.declared.walk.Walk.{Walk}
use Rattle.liveness.specs.declared.window.Window.{Window}
use Rattle.liveness.specs.Passing.{passes_to, passes_points, Keeps}
use Rattle.liveness.specs.Walk.{start_at, cleared}
use Rattle.liveness.specs.Within.{IsWired}

-- ---- one place ----

-- item x is only then in the set before a place that passes it to any code point, if that place keeps it
abbrev pub ReturnsClear : List (Option Ways) → List Items → Walk → ℕ → Type 0
ReturnsClear all forward k x = (p : ℕ) → passes_points (ways_at all p) x ≡ true → has (set_at k.before.sets.items p) x ≡ true → Keeps all forward p x

-- what was cleared before q is cleared from q's predecessors too; if q is a code point, from those of all code points, and `gone'` has it
pub record ClearsStep (all : List (Option Ways)) (g : Graph) (forward : PointSets) (window : Window) (q : ℕ) (k : Walk) (gone : Items) (k' : Walk) (gone' : Items) : Type 0 where
  pub before : IsWired all g.callers → (p x : ℕ) → (p < window.first) ⊎ (window.end ≤ p) → cleared k q x ≡ true → passes_to q (ways_at all p) x ≡ true → has (set_at k'.before.sets.items p) x ≡ true → Keeps all forward.sets.items p x
  pub through : (x : ℕ) → q ≡ window.end → cleared k q x ≡ true → has window.writes.bits x ≡ false → has (set_at k'.before.sets.items window.first) x ≡ true → (has window.reads.bits x ≡ true) ⊎ (has (set_at forward.sets.items window.first) x ≡ true)
  pub point : (x : ℕ) → marked g.is_point.items q ≡ true → cleared k q x ≡ true → (has gone'.bits x ≡ true) ⊎ (has forward.points.bits x ≡ true)
  pub returns : AreReturns all (length all) g.returns.items → (x : ℕ) → (has gone.bits x ≡ true → ReturnsClear all forward.sets.items k x) → has gone'.bits x ≡ true → ReturnsClear all forward.sets.items k' x

-- ---- the walk ----

-- what is lost at the window's first place, if it was live there
abbrev pub lost_at : Window → Window → List Items → ℕ → Bool
lost_at old fresh forward x = ((has old.reads.bits x || (has fresh.writes.bits x && not (has old.writes.bits x))) && not (has fresh.reads.bits x)) && not (has (set_at forward old.first) x)

-- the window's sets were emptied, but that of its first place, which has what isn't lost
pub record Begins (old fresh : Window) (forward : List Items) (k k' : Walk) : Type 0 where
  pub apart : (p : ℕ) → (p < old.first) ⊎ (old.end ≤ p) → set_at k'.before.sets.items p ≡ set_at k.before.sets.items p
  pub inside : (p x : ℕ) → old.first < p → p < old.end → has (set_at k'.before.sets.items p) x ≡ false
  pub first : (x : ℕ) → has (set_at k'.before.sets.items old.first) x ≡ (has (set_at k.before.sets.items old.first) x && not (lost_at old fresh forward x))
  pub pushed : (x : ℕ) → has (set_at k.before.sets.items old.first) x ≡ true → has (set_at k'.before.sets.items old.first) x ≡ false → one_of old.first k'.stack.places ≡ true
  pub start : (p : ℕ) → start_at k' p ≡ set_at k.before.sets.items p
  pub touched : (p : ℕ) → old.first ≤ p → p < old.end → one_of p k'.touched.places ≡ true

-- a code in which straight instructions give way to as many others
pub record Change : Type 0 where
  pub code : Code
  pub new : Code
  pub place : ℕ
  pub old : List Instr
  pub is : List Instr

-- the ways are those of the new code, and the window is what gave way
pub record IsChangeBy (t : Change) (all : List (Option Ways)) (g : Graph) (window : Window) : Type 0 where
  pub exchange : IsExchange t.code t.new t.place t.old t.is
  pub graph : IsGraph t.new all g
  pub first : window.first ≡ t.place
  pub end : window.end ≡ t.place + length t.old
  pub reads : (x : ℕ) → has window.reads.bits x ≡ reads_first t.old x
  pub writes : (x : ℕ) → has window.writes.bits x ≡ writes_in t.old x

-- before which places item x is, and before which it is cleared but its predecessors are still to be looked at
abbrev pub in_sets : List Items → ℕ → ℕ → Bool
in_sets sets x p = has (set_at sets p) x

abbrev pub pending : Walk → ℕ → ℕ → Bool
pending k x p = one_of p k.stack.places && cleared k p x

abbrev pub IsClearingAt : Change → List Items → Walk → ℕ → Type 0
IsClearingAt t forward k x = IsClearing t.code t.place t.old t.is x (in_sets forward x) (in_sets k.before.sets.items x) (pending k x)

-- the walk goes on from k to k' and preserves the invariant
abbrev pub IsSettledBy : List (Option Ways) → Graph → PointSets → Window → Walk → Walk → Type 0
IsSettledBy all g forward window k k' = (t : Change) → IsChangeBy t all g window → ((x : ℕ) → IsClearingAt t forward.sets.items k x) → (x : ℕ) → IsClearingAt t forward.sets.items k' x
