-- Marks of the places that are kept, while places go.
use Rattle.std.proofs.Common.{◌≡◌, ℕ, zero, suc, ◌<◌, ◌≤◌, Bool, true, false, List, [], ◌∷◌, length, drop, replicate, Some, refl, ap, arith}
use Rattle.std.specs.Prelude.{slice_get, slice_set}
use Rattle.std.specs.List.{remove}
use Rattle.std.proofs.lemmas.Option.{same_Some}
use Rattle.kept_places.specs.Marks.{is_gone, rank}
use Rattle.flow_tidy.specs.Quick.{left}

pub left_at : (gone xs : List Bool) (p : ℕ) → is_gone gone p ≡ false → slice_get (left gone xs) (rank gone p) ≡ slice_get xs p
left_at [] xs p e = refl
left_at (g ∷ gs) [] p e = refl
left_at (true ∷ gs) (x ∷ xs) zero e = absurd (cc)
left_at (false ∷ gs) (x ∷ xs) zero e = refl
left_at (true ∷ gs) (x ∷ xs) (suc p) e = left_at gs xs p e
left_at (false ∷ gs) (x ∷ xs) (suc p) e = left_at gs xs p e

-- where a place goes, so does its mark
pub left_gone : (gone xs : List Bool) (p : ℕ) → is_gone gone p ≡ false → p < length gone → p < length xs → left (slice_set gone p true) xs ≡ remove (left gone xs) (rank gone p)
left_gone [] xs p e h k = absurd (omega arith)
left_gone (g ∷ gs) [] p e h k = absurd (omega arith)
left_gone (true ∷ gs) (x ∷ xs) zero e h k = absurd (cc)
left_gone (false ∷ gs) (x ∷ xs) zero e h k = refl
left_gone (true ∷ gs) (x ∷ xs) (suc p) e h k = left_gone gs xs p e (omega arith) (omega arith)
left_gone (false ∷ gs) (x ∷ xs) (suc p) e h k = ap (λ (ys : List Bool). x ∷ ys) (left_gone gs xs p e (omega arith) (omega arith))

-- the mark of a kept place is set
pub left_set : (gone xs : List Bool) (p : ℕ) (v : Bool) → is_gone gone p ≡ false → left gone (slice_set xs p v) ≡ slice_set (left gone xs) (rank gone p) v
left_set [] xs p v e = refl
left_set (g ∷ gs) [] p v e = refl
left_set (true ∷ gs) (x ∷ xs) zero v e = absurd (cc)
left_set (false ∷ gs) (x ∷ xs) zero v e = refl
left_set (true ∷ gs) (x ∷ xs) (suc p) v e = left_set gs xs p v e
left_set (false ∷ gs) (x ∷ xs) (suc p) v e = ap (λ (ys : List Bool). x ∷ ys) (left_set gs xs p v e)

-- to set the mark of a place that is gone makes no difference
pub left_unset : (gone xs : List Bool) (p : ℕ) (v : Bool) → is_gone gone p ≡ true → left gone (slice_set xs p v) ≡ left gone xs
left_unset [] xs p v e = absurd (cc)
left_unset (g ∷ gs) [] p v e = refl
left_unset (true ∷ gs) (x ∷ xs) zero v e = refl
left_unset (false ∷ gs) (x ∷ xs) zero v e = absurd (cc)
left_unset (true ∷ gs) (x ∷ xs) (suc p) v e = left_unset gs xs p v e
left_unset (false ∷ gs) (x ∷ xs) (suc p) v e = ap (λ (ys : List Bool). x ∷ ys) (left_unset gs xs p v e)

pub left_all : (gone : List Bool) (n : ℕ) → left gone (replicate n true) ≡ replicate (length (left gone (replicate n true))) true
left_all [] n = ap (λ k. replicate k true) (all_of n)
  where
    all_of : (n : ℕ) → n ≡ length (replicate n true)
    all_of zero = refl
    all_of (suc n) = ap suc (all_of n)
left_all (g ∷ gs) zero = refl
left_all (true ∷ gs) (suc n) = left_all gs n
left_all (false ∷ gs) (suc n) = ap (λ (ys : List Bool). true ∷ ys) (left_all gs n)

-- as many are left of lists of one length
pub left_as_many : (gone xs ys : List Bool) → length xs ≡ length ys → length (left gone xs) ≡ length (left gone ys)
left_as_many [] xs ys e = e
left_as_many (g ∷ gs) [] [] e = refl
left_as_many (g ∷ gs) [] (y ∷ ys) e = absurd (omega arith)
left_as_many (g ∷ gs) (x ∷ xs) [] e = absurd (omega arith)
left_as_many (true ∷ gs) (x ∷ xs) (y ∷ ys) e = left_as_many gs xs ys (omega arith)
left_as_many (false ∷ gs) (x ∷ xs) (y ∷ ys) e = ap suc (left_as_many gs xs ys (omega arith))

-- and no more than there were
pub left_fewer : (gone xs : List Bool) → length (left gone xs) ≤ length xs
left_fewer [] xs = omega arith
left_fewer (g ∷ gs) [] = omega arith
left_fewer (true ∷ gs) (x ∷ xs) = let r = left_fewer gs xs in omega arith
left_fewer (false ∷ gs) (x ∷ xs) = let r = left_fewer gs xs in omega arith

-- before a place none is marked among those left if none is among all
pub left_free : (gone xs : List Bool) (p : ℕ) → ((k : ℕ) → k < p → slice_get xs k ≡ Some true → ⊥) → (k : ℕ) → k < rank gone p → slice_get (left gone xs) k ≡ Some true → ⊥
left_free [] xs p h k l e = h k l e
left_free (g ∷ gs) [] p h k l e = absurd (cc)
left_free (g ∷ gs) (x ∷ xs) zero h k l e = absurd (omega arith)
left_free (true ∷ gs) (x ∷ xs) (suc p) h k l e = left_free gs xs p (λ j m. h (suc j) (omega arith)) k l e
left_free (false ∷ gs) (x ∷ xs) (suc p) h zero l e = h 0 (omega arith) e
left_free (false ∷ gs) (x ∷ xs) (suc p) h (suc k) l e = left_free gs xs p (λ j m. h (suc j) (omega arith)) k (omega arith) e

-- ---- one place after the other ----

pub left_past : (gone xs : List Bool) (p : ℕ) → length xs ≡ length gone → is_gone gone p ≡ true → left (drop p gone) (drop p xs) ≡ left (drop (suc p) gone) (drop (suc p) xs)
left_past [] xs p e g = absurd (cc)
left_past (g ∷ gs) [] p e h = absurd (omega arith)
left_past (true ∷ gs) (x ∷ xs) zero e h = refl
left_past (false ∷ gs) (x ∷ xs) zero e h = absurd (cc)
left_past (g ∷ gs) (x ∷ xs) (suc p) e h = left_past gs xs p (omega arith) h

pub left_here : (gone xs : List Bool) (p : ℕ) (x : Bool) → length xs ≡ length gone → is_gone gone p ≡ false → slice_get xs p ≡ Some x → left (drop p gone) (drop p xs) ≡ x ∷ left (drop (suc p) gone) (drop (suc p) xs)
left_here [] [] p x e h f = absurd (cc)
left_here [] (y ∷ xs) p x e h f = absurd (omega arith)
left_here (g ∷ gs) [] p x e h f = absurd (cc)
left_here (true ∷ gs) (y ∷ xs) zero x e h f = absurd (cc)
left_here (false ∷ gs) (y ∷ xs) zero x e h f = ap (λ (z : Bool). z ∷ left gs xs) (same_Some y x f)
left_here (g ∷ gs) (y ∷ xs) (suc p) x e h f = left_here gs xs p x (omega arith) h f

pub left_end : (gone xs : List Bool) (p : ℕ) → length xs ≡ length gone → length gone ≤ p → left (drop p gone) (drop p xs) ≡ []
left_end [] [] zero e h = refl
left_end [] [] (suc p) e h = refl
left_end [] (x ∷ xs) p e h = absurd (omega arith)
left_end (g ∷ gs) [] p e h = absurd (omega arith)
left_end (g ∷ gs) (x ∷ xs) zero e h = absurd (omega arith)
left_end (g ∷ gs) (x ∷ xs) (suc p) e h = left_end gs xs p (omega arith) (omega arith)
