-- Marks of places, for one item: where it may be read, and where it is read for sure.
use Rattle.std.specs.Prelude.{◌≡◌, ◌≢◌, ℕ, ◌+◌, ◌<◌, ◌&&◌, ◌||◌, not, Bool, true, false, List, [], ◌∷◌, length, Some, slice_get, ◌⊎◌}
use Rattle.thumb_instr.specs.declared.instr.Instr.{Instr}
use Rattle.thumb_model.specs.Effect.{one_of}
use Rattle.thumb_model.specs.Listing.{Code, IsPoint}
use Rattle.thumb_model.specs.Flow.{Way, AnyPoint, ways, Follows, Reads}
use Rattle.shrinking_sets.specs.Straight.{reads_first, writes_in, IsApart}

-- whether some way reads the item
abbrev pub some_reads : List Way → ℕ → Bool
some_reads [] x = false
some_reads (w ∷ ws) x = one_of x w.reads || some_reads ws x

-- a way from p that doesn't write x leads to q
pub record Passes (code : Code) (x p q : ℕ) : Type 0 where
  pub number : ℕ
  pub found : Way
  pub is : slice_get (ways code p) number ≡ Some found
  pub unwritten : one_of x found.writes ≡ false
  pub leads : Follows code p found.leads q

-- the place, if it is marked, reads the item, or passes it to a greater place that is marked
abbrev pub IsForwardAt : Code → ℕ → (ℕ → Bool) → ℕ → Type 0
IsForwardAt code x f p = f p ≡ true → (some_reads (ways code p) x ≡ true) ⊎ ((q : ℕ) × Passes code x p q × (p < q) × (f q ≡ true))

-- so does each place
abbrev pub IsForward : Code → ℕ → (ℕ → Bool) → Type 0
IsForward code x f = (p : ℕ) → IsForwardAt code x f p

-- what is lost at a window's first place, if it was read there: the new instructions don't read it before they write it, the old ones did, or only the new ones write it, and it isn't marked as read for sure
abbrev pub is_lost : List Instr → List Instr → Bool → ℕ → Bool
is_lost old is sure x = not (reads_first is x) && ((reads_first old x || (writes_in is x && not (writes_in old x))) && not sure)

-- why a place keeps its mark though the item was cleared where a way of it leads: it reads the item, or the item is read for sure from it or along another way
abbrev pub KeepsMark : Code → ℕ → (ℕ → Bool) → ℕ → Type 0
KeepsMark code x f p = (some_reads (ways code p) x ≡ true) ⊎ ((f p ≡ true) ⊎ ((r : ℕ) × Passes code x p r × (f r ≡ true)))

-- marks of places from which x was read before the old instructions gave way to the new: cleared at the window, and backwards from there as far as x isn't read for sure
pub record IsCleared (code : Code) (w : ℕ) (old is : List Instr) (x : ℕ) (f c : ℕ → Bool) : Type 0 where
  pub below : (p : ℕ) → c p ≡ true → Reads code x p
  pub inside : (j : ℕ) → 0 < j → j < length old → c (w + j) ≡ false
  pub lost : is_lost old is (f w) x ≡ true → c w ≡ false
  -- the old window as one place
  pub through : writes_in old x ≡ false → Reads code x (w + length old) → c (w + length old) ≡ false → c w ≡ true → (reads_first old x ≡ true) ⊎ (f w ≡ true)
  -- the other places
  pub back : (p q : ℕ) → IsApart w (length old) p → Passes code x p q → Reads code x q → c q ≡ false → c p ≡ true → KeepsMark code x f p

-- a visit of the place would mark nothing
pub record IsClosedAt (code : Code) (x : ℕ) (c : ℕ → Bool) (p : ℕ) : Type 0 where
  pub reads : some_reads (ways code p) x ≡ true → c p ≡ true
  pub passes : (q : ℕ) → Passes code x p q → c q ≡ true → c p ≡ true

-- ---- the code points as one node ----

-- the same by one mark v for all code points: ways to any code point clear by it
pub record IsClearedByPoints (code : Code) (w : ℕ) (old is : List Instr) (x : ℕ) (f c : ℕ → Bool) (v : Bool) : Type 0 where
  pub below : (p : ℕ) → c p ≡ true → Reads code x p
  pub inside : (j : ℕ) → 0 < j → j < length old → c (w + j) ≡ false
  pub lost : is_lost old is (f w) x ≡ true → c w ≡ false
  pub through : writes_in old x ≡ false → Reads code x (w + length old) → c (w + length old) ≡ false → c w ≡ true → (reads_first old x ≡ true) ⊎ (f w ≡ true)
  -- ways to a place
  pub back : (p q : ℕ) → IsApart w (length old) p → (a : Passes code x p q) → a.found.leads ≢ AnyPoint → Reads code x q → c q ≡ false → c p ≡ true → (some_reads (ways code p) x ≡ true) ⊎ (f p ≡ true)
  -- a code point that was cleared clears the mark, unless a code point reads the item for sure
  pub point : (q : ℕ) → IsPoint code q → Reads code x q → c q ≡ false → (v ≡ false) ⊎ ((r : ℕ) × IsPoint code r × (f r ≡ true))
  -- the mark that was cleared clears the ways to any code point
  pub returns : (p q : ℕ) → IsApart w (length old) p → (a : Passes code x p q) → a.found.leads ≡ AnyPoint → Reads code x q → c q ≡ false → v ≡ false → c p ≡ true → (some_reads (ways code p) x ≡ true) ⊎ (f p ≡ true)
