-- For loops that test the elements of a list in turn: the verdict on the remaining elements is that on the whole.
use Rattle.std.proofs.Common.{ℕ, ◌≡◌, ◌+◌, ◌∷◌, ◌⊎◌, inl, inr, List, Option, Some, None, slice_get, drop, sym, subst, [], zero, suc, arith}
use Rattle.lrat_check.specs.Proofs.{Then, InTurn}
use Rattle.cnf_gates.proofs.Text.{drop_from}

-- an answer on the elements still to come is the whole's
pub record Rest {X F : Type 0} (test : ℕ → X → Option F → Type 0) (m : ℕ) (xs : List X) (whole : Option F → Type 0) : Type 0 where
  pub leads : (o : Option F) → InTurn test m xs o → whole o

pub then_passed : {F : Type 0} (a b : Option F → Type 0) (o : Option F) → a None → b o → Then a b o
then_passed a b None p q = (p, q)
then_passed a b (Some f) p q = inr (p, q)

pub turn_at : {X F : Type 0} (test : ℕ → X → Option F → Type 0) (m : ℕ) (xs : List X) (i : ℕ) (x : X) (o : Option F) → slice_get xs i ≡ Some x → Then (test m x) (InTurn test (m + 1) (drop (i + 1) xs)) o → InTurn test m (drop i xs) o
turn_at test m xs i x o e p = subst (λ ys. InTurn test m ys o) (sym (drop_from xs i x e)) p

pub turn_step : {X F : Type 0} (test : ℕ → X → Option F → Type 0) (m : ℕ) (xs : List X) (i : ℕ) (x : X) (whole : Option F → Type 0) → slice_get xs i ≡ Some x → Rest test m (drop i xs) whole → test m x None → Rest test (m + 1) (drop (i + 1) xs) whole
turn_step test m xs i x whole e rest p = record { leads = λ o later. rest.leads o (turn_at test m xs i x o e (then_passed (test m x) (InTurn test (m + 1) (drop (i + 1) xs)) o p later)) }

pub turn_fault : {X F : Type 0} (test : ℕ → X → Option F → Type 0) (m : ℕ) (xs : List X) (i : ℕ) (x : X) (whole : Option F → Type 0) (f : F) → slice_get xs i ≡ Some x → Rest test m (drop i xs) whole → test m x (Some f) → whole (Some f)
turn_fault test m xs i x whole f e rest p = rest.leads (Some f) (turn_at test m xs i x (Some f) e (inl p))

pub turn_failed : {X F : Type 0} (test : ℕ → X → Option F → Type 0) (m : ℕ) (xs : List X) (i : ℕ) (x : X) (whole : Option F → Type 0) (f g : F) → slice_get xs i ≡ Some x → Rest test m (drop i xs) whole → (f ≡ g) ⊎ test m x (Some f) → (f ≡ g) ⊎ whole (Some f)
turn_failed test m xs i x whole f g e rest (inl p) = inl p
turn_failed test m xs i x whole f g e rest (inr p) = inr (turn_fault test m xs i x whole f e rest p)

-- where all elements pass, each one does
pub turn_each : {X F : Type 0} (test : ℕ → X → Option F → Type 0) (m : ℕ) (xs : List X) (i : ℕ) (x : X) → InTurn test m xs None → slice_get xs i ≡ Some x → test (m + i) x None
turn_each test m [] i x p e = absurd (cc)
turn_each test m (y ∷ xs) zero x p e =
    let q : y ≡ x = cc in let k : m ≡ m + 0 = omega arith in subst (λ j. test j x None) k (subst (λ z. test m z None) q p.0)
turn_each test m (y ∷ xs) (suc i) x p e =
    let k : m + 1 + i ≡ m + suc i = omega arith in subst (λ j. test j x None) k (turn_each test (m + 1) xs i x p.1 e)
