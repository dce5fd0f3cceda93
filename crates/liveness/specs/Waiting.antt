-- The places that wait for a visit.
use Rattle.std.specs.Prelude.{◌≡◌, ◌≢◌, ℕ, ◌+◌, ◌<◌, ◌≤◌, true, length, ◌⊎◌}
use Rattle.thumb_instr.specs.Items.{one_of}
use Rattle.liveness.specs.Marked.{count_marked}
use Rattle.liveness.specs.declared.waiting.Waiting.{Waiting}
use Rattle.kept_places.specs.Marks.{marked}

-- how many places wait
abbrev pub left : Waiting → ℕ
left w = length w.again.items + w.fresh

-- the marked places wait, and no place waits twice
pub record AreWaiting (w : Waiting) : Type 0 where
  pub fresh : w.fresh ≤ length w.marks.items
  pub again : (q : ℕ) → one_of q w.again.items ≡ true → q < length w.marks.items
  pub listed : (q : ℕ) → marked w.marks.items q ≡ true → (one_of q w.again.items ≡ true) ⊎ (q < w.fresh)
  pub few : left w ≤ count_marked w.marks.items

-- all places that waited still wait, and no fewer than before
pub record WaitMore (w w' : Waiting) : Type 0 where
  pub waiting : AreWaiting w'
  pub as_many : length w'.marks.items ≡ length w.marks.items
  pub kept : (q : ℕ) → marked w.marks.items q ≡ true → marked w'.marks.items q ≡ true
  pub no_fewer : left w ≤ left w'

-- p waits no more
pub record IsTaken (p : ℕ) (w w' : Waiting) : Type 0 where
  pub waiting : AreWaiting w'
  pub as_many : length w'.marks.items ≡ length w.marks.items
  pub within : p < length w.marks.items
  pub others : (q : ℕ) → q ≢ p → marked w'.marks.items q ≡ marked w.marks.items q
  pub less : left w' + 1 ≡ left w
