-- The invariant and the measure of working out live items from scratch.
use Rattle.std.specs.Prelude.{◌≡◌, ℕ, ◌+◌, ◌≤◌, false, List, length, Option, Some, slice_get, ◌⊎◌}
use Rattle.thumb_instr.specs.Items.{one_of}
use Rattle.thumb_model.specs.Listing.{Code}
use Rattle.code_flow.specs.declared.way.Ways.{Ways}
use Rattle.code_flow.specs.Flow.{way_list}
use Rattle.liveness.specs.declared.visiting.Found.{Found}
use Rattle.liveness.specs.declared.waiting.Waiting.{Waiting}
use Rattle.liveness.specs.Passes.{total, AreSound, IsClosed}
use Rattle.kept_places.specs.Marks.{marked}
use Rattle.liveness.specs.Waiting.{left, AreWaiting}

-- the sets have only what is read, and a visit of a place that neither waits nor is pending would change nothing
pub record IsSettling (code : Code) (all : List (Option Ways)) (pending : List ℕ) (f : Found) (w : Waiting) : Type 0 where
  pub before_len : length f.before.items ≡ length all
  pub after_len : length f.after.items ≡ length all
  pub sound : AreSound code f.before.items f.points.bits
  pub waiting : AreWaiting w
  pub as_many : length w.marks.items ≡ length all
  pub closed : (q : ℕ) (ws : Option Ways) → slice_get all q ≡ Some ws → marked w.marks.items q ≡ false → one_of q pending ≡ false → IsClosed (way_list ws) q f.before.items f.after.items f.points.bits

-- some set has an item more, or as many places wait and the sets have as many items
abbrev pub Advances : Found → Waiting → Found → Waiting → Type 0
Advances f w f' w' = (total f.before.items + 1 ≤ total f'.before.items) ⊎ ((total f'.before.items ≡ total f.before.items) × (left w' ≡ left w))
