-- Marks that are cleared by a walk backwards, for one item.
use Rattle.std.specs.Prelude.{◌≡◌, ◌≢◌, ℕ, ◌+◌, ◌<◌, Bool, true, false, List, length, ◌⊎◌}
use Rattle.thumb_instr.specs.declared.instr.Instr.{Instr}
use Rattle.thumb_model.specs.Listing.{Code, IsPoint}
use Rattle.thumb_model.specs.Flow.{AnyPoint, ways, Reads}
use Rattle.shrinking_sets.specs.Straight.{reads_first, writes_in, IsApart}
use Rattle.shrinking_sets.specs.Marks.{some_reads, Passes, KeepsMark, is_lost}

-- the invariant of the walk: the marks are cleared backwards from each cleared place but the pending ones
pub record IsClearing (code : Code) (w : ℕ) (old is : List Instr) (x : ℕ) (f c pending : ℕ → Bool) : Type 0 where
  pub below : (p : ℕ) → c p ≡ true → Reads code x p
  pub inside : (j : ℕ) → 0 < j → j < length old → c (w + j) ≡ false
  pub lost : is_lost old is (f w) x ≡ true → c w ≡ false
  pub through : writes_in old x ≡ false → Reads code x (w + length old) → c (w + length old) ≡ false → pending (w + length old) ≡ false → c w ≡ true → (reads_first old x ≡ true) ⊎ (f w ≡ true)
  pub back : (p q : ℕ) → IsApart w (length old) p → Passes code x p q → Reads code x q → c q ≡ false → pending q ≡ false → c p ≡ true → KeepsMark code x f p

-- where the walk begins: the window's own marks are cleared but that of its first place, which is cleared and pending where the item is lost there
pub record IsBegun (code : Code) (w : ℕ) (old is : List Instr) (x : ℕ) (f c pending : ℕ → Bool) : Type 0 where
  pub below : (p : ℕ) → c p ≡ true → Reads code x p
  pub others : (p : ℕ) → IsApart w (length old) p → Reads code x p → c p ≡ true
  pub inside : (j : ℕ) → 0 < j → j < length old → c (w + j) ≡ false
  pub lost : is_lost old is (f w) x ≡ true → c w ≡ false
  pub first : Reads code x w → c w ≡ false → pending w ≡ true

-- a place q was visited: if it was pending, the places before it were cleared, but those that keep their marks, and what was cleared is pending
pub record IsStep (code : Code) (w : ℕ) (old : List Instr) (x : ℕ) (f c pending : ℕ → Bool) (q : ℕ) (c' pending' : ℕ → Bool) : Type 0 where
  pub fewer : (p : ℕ) → c' p ≡ true → c p ≡ true
  pub pushed : (p : ℕ) → c p ≡ true → c' p ≡ false → pending' p ≡ true
  pub stays : (p : ℕ) → p ≢ q → pending p ≡ true → pending' p ≡ true
  pub before : pending q ≡ true → (p : ℕ) → IsApart w (length old) p → Passes code x p q → c' p ≡ true → KeepsMark code x f p
  -- the old window as one place
  pub window : pending q ≡ true → q ≡ w + length old → writes_in old x ≡ false → c' w ≡ true → (reads_first old x ≡ true) ⊎ (f w ≡ true)

-- ---- the code points as one node ----

-- the same with one mark for all code points, cleared where g: by a cleared code point, unless one reads the item for sure; then it clears ways to any of them
pub record IsStepByPoints (code : Code) (w : ℕ) (old : List Instr) (x : ℕ) (f c pending : ℕ → Bool) (q : ℕ) (c' pending' : ℕ → Bool) (g : Bool) : Type 0 where
  pub fewer : (p : ℕ) → c' p ≡ true → c p ≡ true
  pub pushed : (p : ℕ) → c p ≡ true → c' p ≡ false → pending' p ≡ true
  pub stays : (p : ℕ) → p ≢ q → pending p ≡ true → pending' p ≡ true
  pub before : pending q ≡ true → (p : ℕ) → IsApart w (length old) p → (a : Passes code x p q) → a.found.leads ≢ AnyPoint → c' p ≡ true → (some_reads (ways code p) x ≡ true) ⊎ (f p ≡ true)
  pub window : pending q ≡ true → q ≡ w + length old → writes_in old x ≡ false → c' w ≡ true → (reads_first old x ≡ true) ⊎ (f w ≡ true)
  pub point : pending q ≡ true → IsPoint code q → (g ≡ true) ⊎ ((r : ℕ) × IsPoint code r × (f r ≡ true))
  pub returns : g ≡ true → (p r : ℕ) → IsApart w (length old) p → (a : Passes code x p r) → a.found.leads ≡ AnyPoint → c' p ≡ true → (some_reads (ways code p) x ≡ true) ⊎ (f p ≡ true)

-- ---- marks that grow back ----

-- the place p was visited: it has what its ways give it, and if it gained the mark, each place with a way to it is on the stack or has the mark
pub record IsVisited (code : Code) (x : ℕ) (c stack : ℕ → Bool) (p : ℕ) (c' stack' : ℕ → Bool) : Type 0 where
  pub more : c p ≡ true → c' p ≡ true
  pub elsewhere : (q : ℕ) → q ≢ p → c' q ≡ c q
  pub reads : some_reads (ways code p) x ≡ true → c' p ≡ true
  pub passes : (q : ℕ) → Passes code x p q → c q ≡ true → c' p ≡ true
  pub stays : (q : ℕ) → q ≢ p → stack q ≡ true → stack' q ≡ true
  pub pushed : (q : ℕ) → Passes code x q p → c p ≡ false → c' p ≡ true → (stack' q ≡ true) ⊎ (c' q ≡ true)

-- ---- forward marks that are worked out anew ----

-- the mark of p was worked out anew: if it was cleared, each lesser place with a way to p is due
pub record IsForwardStep (code : Code) (x : ℕ) (f due : ℕ → Bool) (p : ℕ) (f' due' : ℕ → Bool) : Type 0 where
  pub elsewhere : (q : ℕ) → q ≢ p → f' q ≡ f q
  pub here : f' p ≡ true → (some_reads (ways code p) x ≡ true) ⊎ ((q : ℕ) × Passes code x p q × (p < q) × (f q ≡ true))
  pub stays : (q : ℕ) → q ≢ p → due q ≡ true → due' q ≡ true
  pub pushed : f p ≡ true → f' p ≡ false → (q : ℕ) → q < p → Passes code x q p → due' q ≡ true
