-- The literals of clauses are within the number of variables, also as the code's vectors hold them.
use Rattle.std.proofs.Common.{◌≡◌, ℕ, zero, suc, ◌+◌, ◌%◌, ◌/◌, ◌<◌, ◌≤◌, List, [], ◌∷◌, ◌++◌, Bool, true, false, cond, nat_eq, length, map, slice_index_or, ℤ, pos, negsuc, All, arith, drop, get_or, drop-cons, ap, sym, subst, ◌∙◌}
use Rattle.std.proofs.lemmas.Int.{ints}
use Rattle.cnf_gates.specs.Cnf.{IsLiteralOf, AreLiteralsOf, AreClausesOf}
use Rattle.clause_model.specs.Clauses.{negated, variable_of, number_of}
use Rattle.clause_model.proofs.LiteralLaws.{variable_of-negated}

-- the number of a literal
pub IsLiteralOf-number_of : (n l : ℕ) → variable_of l < n → IsLiteralOf n (number_of l)
IsLiteralOf-number_of n l h = at (l / 2) (nat_eq (l % 2) 0) h
  where
    at : (v : ℕ) (positive : Bool) → v < n → IsLiteralOf n (cond positive (pos (v + 1)) (negsuc v))
    at v true h = (λ e. omega (arith, ints), omega (arith, ints), omega (arith, ints))
    at v false h = (λ e. cc, omega (arith, ints), omega (arith, ints))

-- the contrary literal has the same variable
pub negated_below : (n l : ℕ) → variable_of l < n → variable_of (negated l) < n
negated_below n l h = subst (λ (v : ℕ). v < n) (sym (variable_of-negated l)) h

pub AreClausesOf-append : (n : ℕ) (cs ds : List (List ℤ)) → AreClausesOf n cs → AreClausesOf n ds → AreClausesOf n (cs ++ ds)
AreClausesOf-append n [] ds h k = k
AreClausesOf-append n (c ∷ cs) ds h k = (h.0, AreClausesOf-append n cs ds h.1 k)

pub AreLiteralsOf-append : (n : ℕ) (xs ys : List ℤ) → AreLiteralsOf n xs → AreLiteralsOf n ys → AreLiteralsOf n (xs ++ ys)
AreLiteralsOf-append n [] ys h k = k
AreLiteralsOf-append n (x ∷ xs) ys h k = (h.0, AreLiteralsOf-append n xs ys h.1 k)

-- each literal of a clause, as a fact of its place
pub AreLiteralsOf-All : (n : ℕ) (zs : List ℤ) → AreLiteralsOf n zs → All (IsLiteralOf n) zs
AreLiteralsOf-All n [] h = λ k d p. absurd (omega arith)
AreLiteralsOf-All n (z ∷ zs) h = λ k. elim k as (λ i. (d : ℤ) → i < length (z ∷ zs) → IsLiteralOf n (slice_index_or (z ∷ zs) i d)) [
  | zero ↦ λ d p. h.0
  | suc i ↦ λ d p. AreLiteralsOf-All n zs h.1 i d (omega arith)
]

-- each clause, by its place
pub AreClausesOf-get_or : {A : Type 0} (n : ℕ) (f : A → List ℤ) (xs : List A) (i : ℕ) (d : A) → i < length xs → AreClausesOf n (map f xs) → AreLiteralsOf n (f (get_or xs i d))
AreClausesOf-get_or n f [] i d h k = absurd (omega arith)
AreClausesOf-get_or n f (x ∷ xs) zero d h k = k.0
AreClausesOf-get_or n f (x ∷ xs) (suc i) d h k = AreClausesOf-get_or n f xs i d (omega arith) k.1

-- one more literal, one more clause
pub AreLiteralsOf-push : (n : ℕ) (zs : List ℤ) (z : ℤ) → AreLiteralsOf n zs → IsLiteralOf n z → AreLiteralsOf n (zs ++ z ∷ [])
AreLiteralsOf-push n zs z h k = AreLiteralsOf-append n zs (z ∷ []) h (k, tt)

pub AreClausesOf-push : (n : ℕ) (cs : List (List ℤ)) (c : List ℤ) → AreClausesOf n cs → AreLiteralsOf n c → AreClausesOf n (cs ++ c ∷ [])
AreClausesOf-push n cs c h k = AreClausesOf-append n cs (c ∷ []) h (k, tt)

-- what is made of the elements from a place on
pub map_from : {A B : Type 0} (f : A → B) (xs : List A) (i : ℕ) (x : A) → i < length xs → x ≡ get_or xs i x → map f (drop i xs) ≡ f x ∷ map f (drop (i + 1) xs)
map_from f xs i x h e = ap (map f) (drop-cons xs i x h) ∙ ap (λ y. f y ∷ map f (drop (suc i) xs)) (sym e) ∙ ap (λ k. f x ∷ map f (drop k xs)) (let one : suc i ≡ i + 1 = omega arith in one)

-- a literal of n variables is one of more variables
pub IsLiteralOf-more : (n k : ℕ) (z : ℤ) → n ≤ k → IsLiteralOf n z → IsLiteralOf k z
IsLiteralOf-more n k z h l = (l.0, omega (arith, ints), omega (arith, ints))

pub AreLiteralsOf-more : (n k : ℕ) (zs : List ℤ) → n ≤ k → AreLiteralsOf n zs → AreLiteralsOf k zs
AreLiteralsOf-more n k [] h l = tt
AreLiteralsOf-more n k (z ∷ zs) h l = (IsLiteralOf-more n k z h l.0, AreLiteralsOf-more n k zs h l.1)

pub AreClausesOf-more : (n k : ℕ) (cs : List (List ℤ)) → n ≤ k → AreClausesOf n cs → AreClausesOf k cs
AreClausesOf-more n k [] h l = tt
AreClausesOf-more n k (c ∷ cs) h l = (AreLiteralsOf-more n k c h l.0, AreClausesOf-more n k cs h l.1)
