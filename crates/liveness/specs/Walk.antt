-- Sets of live items while they shrink.
use Rattle.std.specs.Prelude.{◌≡◌, ℕ, ◌+◌, ◌*◌, ◌<◌, ◌≤◌, ◌^◌, ◌&&◌, not, Bool, true, false, List, length, if◌then◌else◌}
use Rattle.thumb_instr.specs.Items.{one_of, has}
use Rattle.liveness.specs.Live.{set_at}
use Rattle.liveness.specs.Passes.{total}
use Rattle.liveness.specs.Counted.{AreCounted}
use Rattle.liveness.specs.declared.walk.Walk.{Walk}

-- what the set of a place was at first
abbrev pub start_at : Walk → ℕ → ℕ
start_at k p = if one_of p k.touched.places then set_at k.was.items p else set_at k.before.sets.items p

-- whether an item was taken from the set of a place
abbrev pub cleared : Walk → ℕ → ℕ → Bool
cleared k p x = has (start_at k p) x && not (has (set_at k.before.sets.items p) x)

-- the walk has sets for n places; `marks` says which are code points
pub record IsFitWalk (marks : List Bool) (n : ℕ) (k : Walk) : Type 0 where
  pub enough : n ≤ length marks
  pub few : n < 2 ^ 32
  pub counted : AreCounted marks k.before
  pub before_many : length k.before.sets.items ≡ n
  pub was_many : length k.was.items ≡ n
  pub stack_room : k.stack.room ≡ n
  pub touched_room : k.touched.room ≡ n
  pub below : (p x : ℕ) → has (set_at k.before.sets.items p) x ≡ true → has (start_at k p) x ≡ true
  pub stacked : (p : ℕ) → one_of p k.stack.places ≡ true → one_of p k.touched.places ≡ true

-- items were cleared, and the places before which some were are on the stack
pub record ClearsOn (k k' : Walk) : Type 0 where
  pub many : length k'.was.items ≡ length k.was.items
  pub fewer : (p x : ℕ) → has (set_at k'.before.sets.items p) x ≡ true → has (set_at k.before.sets.items p) x ≡ true
  pub pushed : (p x : ℕ) → has (set_at k.before.sets.items p) x ≡ true → has (set_at k'.before.sets.items p) x ≡ false → one_of p k'.stack.places ≡ true
  pub kept : (p : ℕ) → one_of p k.stack.places ≡ true → one_of p k'.stack.places ≡ true
  pub touched : (p : ℕ) → one_of p k.touched.places ≡ true → one_of p k'.touched.places ≡ true
  pub start : (p : ℕ) → start_at k' p ≡ start_at k p
  -- each place that came onto the stack has an item less
  pub less : 2 * total k'.before.sets.items + length k'.stack.places ≤ 2 * total k.before.sets.items + length k.stack.places
