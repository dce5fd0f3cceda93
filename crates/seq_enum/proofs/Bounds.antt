-- The bounds of a pool.
use Rattle.std.proofs.Common.{◌≡◌, ℕ, suc, ◌<◌, ◌≤◌, Bool, true, false, ◌&&◌, nat_le, nat_lt, List, [], ◌∷◌, length, refl, ap, ◌∙◌, arith, lt-ltb, le-leb, leb-true, ltb-true, Fits, w8, get_or, filter}
use Rattle.std.specs.List.{list_all}
use Rattle.std.proofs.lemmas.Bool.{and_parts, lt-leb}
use Rattle.std.proofs.Math.Facts.{Fits-lt-pow}
use Rattle.seq_enum.specs.Alphabet.{ascends_from, those_within, IsPlace, inside, is_pool}
use Rattle.seq_enum.specs.Places.{place_of}
use Rattle.seq_enum.proofs.Ascending.{ascends_filter, IsPlace-ascending}
use Rattle.seq_enum.proofs.Fields.{within_length}
use Rattle.std.proofs.Common.{Option, Some, None, IfSome, cond}

-- the numbers of a slice of bytes are bytes
all_bytes : (xs : List ℕ) → ((i : ℕ) → Fits w8 (get_or xs i 0)) → list_all (inside 0 256) xs ≡ true
all_bytes [] fits = refl
all_bytes (x ∷ xs) fits =
    let low : x < 256 = omega (arith, Fits-lt-pow (fits 0)) in
    rw (le-leb 0 x (omega arith), lt-ltb x 256 low) (all_bytes xs (λ i. fits (suc i)))

pub pool_empty : (xs : List ℕ) → length xs ≡ 0 → is_pool xs ≡ false
unfolding is_pool
pool_empty [] e = refl
pool_empty (x ∷ xs) e = absurd (omega (arith, e))

pub pool_many : (xs : List ℕ) → 16 < length xs → is_pool xs ≡ false
unfolding is_pool
pool_many xs h = rw (lt-ltb 0 (length xs) (omega arith), lt-leb (length xs) 16 h) refl

pub pool_few : (xs : List ℕ) → ((i : ℕ) → Fits w8 (get_or xs i 0)) → 0 < length xs → length xs ≤ 16 → is_pool xs ≡ ascends_from 0 xs
unfolding is_pool
pool_few xs fits some few = rw (lt-ltb 0 (length xs) some, le-leb (length xs) 16 few, all_bytes xs fits) refl

pub ruleset pools = (pool_empty, pool_many, pool_few)

-- what holds of every pool
pub record Bounds (xs : List ℕ) : Type 0 where
  pub some : 0 < length xs
  pub few : length xs ≤ 16
  pub bytes : list_all (inside 0 256) xs ≡ true
  pub ascends : ascends_from 0 xs ≡ true

pub bounds : (xs : List ℕ) → is_pool xs ≡ true → Bounds xs
unfolding is_pool
bounds xs h =
    let c = and_parts (nat_lt 0 (length xs) && nat_le (length xs) 16 && list_all (inside 0 256) xs) (ascends_from 0 xs) h in
    let b = and_parts (nat_lt 0 (length xs) && nat_le (length xs) 16) (list_all (inside 0 256) xs) c.0 in
    let a = and_parts (nat_lt 0 (length xs)) (nat_le (length xs) 16) b.0 in
    record { some = ltb-true 0 (length xs) a.0; few = leb-true (length xs) 16 a.1; bytes = b.1; ascends = c.1 }

all_kept : (p : ℕ → Bool) (xs : List ℕ) → list_all p xs ≡ true → filter p xs ≡ xs
all_kept p [] h = refl
all_kept p (x ∷ xs) h = let parts = and_parts (p x) (list_all p xs) h in rw parts.0 (ap (λ ys. x ∷ ys) (all_kept p xs parts.1))

-- every number of a pool is a byte
pub whole_pool : (xs : List ℕ) → is_pool xs ≡ true → length (those_within 0 256 xs) ≡ length xs
whole_pool xs h = within_length 0 256 xs ∙ ap length (all_kept (inside 0 256) xs (bounds xs h).bytes)

pub IsPlace-filtered : (p : ℕ → Bool) (xs : List ℕ) (x : ℕ) (o : Option ℕ) → ascends_from 0 xs ≡ true → place_of x (filter p xs) ≡ o → IsPlace o (filter p xs) x
IsPlace-filtered p xs x o up e = rw (← e) (IsPlace-ascending 0 (filter p xs) x (ascends_filter p 0 xs up))

pub below_more : (o : Option ℕ) (n m : ℕ) → IfSome o (λ i. i < n) → n ≤ m → IfSome o (λ i. i < m)
below_more None n m h k = h
below_more (Some i) n m h k = omega (arith, h)

fewer : (p : ℕ → Bool) (xs : List ℕ) → length (filter p xs) ≤ length xs
fewer p [] = omega arith
fewer p (x ∷ xs) =
    let rest = fewer p xs in
    elim (p x) as (λ t. length (cond t (x ∷ filter p xs) (filter p xs)) ≤ suc (length xs)) [ true ↦ omega (arith, rest) | false ↦ omega (arith, rest) ]

pub within_few : (a b : ℕ) (xs : List ℕ) → is_pool xs ≡ true → length (those_within a b xs) ≤ 16
within_few a b xs h = omega (arith, within_length a b xs, fewer (inside a b) xs, (bounds xs h).few)
