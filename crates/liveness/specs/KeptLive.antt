-- Live items that are kept while windows give way.
use Rattle.std.specs.Prelude.{◌≡◌, ℕ, true, false, List, [], length, Option, ◌↔◌}
use Rattle.thumb_instr.specs.declared.items.Items.{Items}
use Rattle.thumb_instr.specs.Items.{has}
use Rattle.thumb_model.specs.Listing.{Code}
use Rattle.thumb_model.specs.Flow.{Reads}
use Rattle.shrinking_sets.specs.Straight.{reads_first, writes_in, IsUnlabelled}
use Rattle.kept_places.specs.Marks.{marked}
use Rattle.code_flow.specs.declared.way.Ways.{Ways}
use Rattle.liveness.specs.declared.graph.Graph.{Graph}
use Rattle.liveness.specs.Live.{set_at}
use Rattle.liveness.specs.Graph.{IsGraph}
use Rattle.liveness.specs.declared.kept_live.KeptFlow.{KeptFlow}
use Rattle.liveness.specs.declared.walk.Walk.{Walk}
use Rattle.liveness.specs.declared.window.Window.{Window}
use Rattle.liveness.specs.Ahead.{IsAhead}
use Rattle.liveness.specs.Clears.{Change, IsChangeBy}
use Rattle.liveness.specs.Counted.{AreCounted}
use Rattle.liveness.specs.Parts.{Parts}
use Rattle.liveness.specs.Walk.{IsFitWalk}
use Rattle.liveness.specs.Within.{IsInside}

abbrev pub parts_of : KeptFlow → Parts
parts_of k = record { ways = k.ways.items; graph = k.graph; before = k.walk.before.sets.items; forward = k.forward.sets.items }

-- an item is before a place exactly where a path from there reads it before it is written, and what is said to be read for sure is read along ways to greater places
pub record IsKeptLive (code : Code) (k : Parts) : Type 0 where
  pub graph : IsGraph code k.ways k.graph
  pub before_len : length k.before ≡ length code.places
  pub live : (p x : ℕ) → (has (set_at k.before p) x ≡ true) ↔ Reads code x p
  pub ahead : IsAhead k.ways k.forward

-- an item of the first set isn't in the second
abbrev pub LosesAt : ℕ → ℕ → Type 0
LosesAt old new = (x : ℕ) × (has old x ≡ true) × (has new x ≡ false)

-- sets, counts and graph are for the same number of places, and no place is due
pub record IsFitKept (k : KeptFlow) : Type 0 where
  pub inside : IsInside (length k.ways.items) k.graph
  pub forward_many : length k.forward.sets.items ≡ length k.ways.items
  pub forward_counted : AreCounted k.graph.is_point.items k.forward
  pub due_many : length k.due ≡ length k.ways.items
  pub due_none : (q : ℕ) → marked k.due q ≡ false
  pub walk : IsFitWalk k.graph.is_point.items (length k.ways.items) k.walk

-- between calls no place is on a stack either
pub record IsIdle (k : KeptFlow) : Type 0 where
  pub fit : IsFitKept k
  pub stack : k.walk.stack.places ≡ []
  pub touched : k.walk.touched.places ≡ []

-- if the sets were those of the old code, then what they still have is live in the new one
abbrev pub IsShrunkBy : List (Option Ways) → Graph → List Items → Window → Window → Walk → Walk → Type 0
IsShrunkBy all g forward old fresh k k' =
    (t : Change) → IsChangeBy t all g old → IsUnlabelled t.code t.place (length t.old) → ((x : ℕ) → has fresh.reads.bits x ≡ reads_first t.is x) → ((x : ℕ) → has fresh.writes.bits x ≡ writes_in t.is x) → IsAhead all forward
    → ((p x : ℕ) → (has (set_at k.before.sets.items p) x ≡ true) ↔ Reads t.code x p)
    → (p x : ℕ) → has (set_at k'.before.sets.items p) x ≡ true → Reads t.new x p
