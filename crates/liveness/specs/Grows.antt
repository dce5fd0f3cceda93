-- Sets of live items that grow until no place lacks one.
use Rattle.std.specs.Prelude.{◌≡◌, ◌≢◌, ℕ, ◌+◌, ◌≤◌, ◌||◌, true, false, List, length, Option, ◌⊎◌}
use Rattle.thumb_instr.specs.declared.items.Items.{Items}
use Rattle.thumb_instr.specs.Items.{one_of, has}
use Rattle.thumb_model.specs.Listing.{Code}
use Rattle.thumb_model.specs.Flow.{Reads}
use Rattle.shrinking_sets.specs.Marks.{IsClosedAt}
use Rattle.code_flow.specs.declared.way.Ways.{Ways}
use Rattle.liveness.specs.declared.graph.Graph.{Graph}
use Rattle.liveness.specs.Live.{set_at}
use Rattle.liveness.specs.Passes.{gained, total}
use Rattle.liveness.specs.Graph.{some_leads, some_return, ways_at, AreReturns, IsGraph}
use Rattle.liveness.specs.declared.counted.PointSets.{PointSets}
use Rattle.liveness.specs.Stack.{Stack}
use Rattle.liveness.specs.Clears.{in_sets}
use Rattle.liveness.specs.Within.{IsWired}

-- a visit of p: it has what its ways give it, and where it or the set of all code points grew, what leads there is on the stack
pub record GrowsAt (all : List (Option Ways)) (g : Graph) (p : ℕ) (s : PointSets) (k : Stack) (s' : PointSets) (k' : Stack) : Type 0 where
  pub here : (x : ℕ) → has (set_at s'.sets.items p) x ≡ (has (set_at s.sets.items p) x || gained (ways_at all p) s.sets.items s.points.bits x)
  pub elsewhere : (q : ℕ) → q ≢ p → set_at s'.sets.items q ≡ set_at s.sets.items q
  pub kept : (q : ℕ) → one_of q k.places ≡ true → one_of q k'.places ≡ true
  pub leading : IsWired all g.callers → (q : ℕ) → some_leads p (ways_at all q) ≡ true → (set_at s'.sets.items p ≡ set_at s.sets.items p) ⊎ (one_of q k'.places ≡ true)
  pub returns : AreReturns all (length all) g.returns.items → (q : ℕ) → some_return (ways_at all q) ≡ true → (s'.points.bits ≡ s.points.bits) ⊎ (one_of q k'.places ≡ true)
  pub advances : (total s.sets.items + 1 ≤ total s'.sets.items) ⊎ ((total s'.sets.items ≡ total s.sets.items) × (length k'.places ≡ length k.places))

-- the sets have only what is read, and a place that isn't on the stack lacks nothing
pub record IsGrowing (code : Code) (sets : List Items) (stack : List ℕ) : Type 0 where
  pub read : (p x : ℕ) → has (set_at sets p) x ≡ true → Reads code x p
  pub closed : (x p : ℕ) → one_of p stack ≡ false → IsClosedAt code x (in_sets sets x) p

-- that is preserved from the old sets and stack to the new
abbrev pub IsGrownBy : List (Option Ways) → Graph → List Items → List ℕ → List Items → List ℕ → Type 0
IsGrownBy all g sets stack sets' stack' = (code : Code) → IsGraph code all g → IsGrowing code sets stack → IsGrowing code sets' stack'
