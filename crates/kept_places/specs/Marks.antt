-- Marks of places: which of them are gone, and how many are kept before one.
use Rattle.std.specs.Prelude.{◌≡◌, ℕ, zero, suc, ◌+◌, ◌<◌, ◌≤◌, Bool, true, false, List, [], ◌∷◌, length}

-- whether a place is marked; one past the marks isn't
abbrev pub marked : List Bool → ℕ → Bool
marked [] p = false
marked (m ∷ ms) zero = m
marked (m ∷ ms) (suc p) = marked ms p

-- whether a place is gone; one past the marks is kept
abbrev pub is_gone : List Bool → ℕ → Bool
is_gone gone p = marked gone p

-- the number of kept places before p
abbrev pub rank : List Bool → ℕ → ℕ
rank [] p = p
rank (g ∷ gs) zero = 0
rank (true ∷ gs) (suc p) = rank gs p
rank (false ∷ gs) (suc p) = suc (rank gs p)

-- q is the least kept place from p on, or the end where none is left
pub record IsNode (gone : List Bool) (p q : ℕ) : Type 0 where
  pub from : p ≤ q
  pub within : q ≤ length gone
  pub kept : is_gone gone q ≡ false
  pub between : (k : ℕ) → p ≤ k → k < q → is_gone gone k ≡ true

-- s is the first of the gone places that stand right before q, or q itself
pub record IsStart (gone : List Bool) (q s : ℕ) : Type 0 where
  pub up_to : s ≤ q
  pub between : (k : ℕ) → s ≤ k → k < q → is_gone gone k ≡ true
  pub first : (k : ℕ) → k + 1 ≡ s → is_gone gone k ≡ false

-- p is the least marked place
pub record IsLeast (marks : List Bool) (p : ℕ) : Type 0 where
  pub here : marked marks p ≡ true
  pub least : (k : ℕ) → k < p → marked marks k ≡ false

-- p is the greatest marked place
pub record IsGreatest (marks : List Bool) (p : ℕ) : Type 0 where
  pub here : marked marks p ≡ true
  pub greatest : (k : ℕ) → p < k → marked marks k ≡ false
