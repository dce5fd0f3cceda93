-- The loop that keeps each literal once yields what the definition by filters does.
use Rattle.std.proofs.Common.{◌≡◌, ℕ, List, [], ◌∷◌, ◌++◌, Bool, true, false, cond, not, eqb, ◌&&◌, ◌||◌, refl, sym, ap, ◌∙◌, ⊎_elim, append_assoc}
use Rattle.std.proofs.lemmas.Bool.{cases_Bool, cond-true, cond-false, eqb-true}
use Rattle.std.proofs.lemmas.List.{append-nil}
use Rattle.std.specs.List.{filter}
use Rattle.cnf_gates.specs.Gates.{among, distinct}
use Rattle.cnf_gates.proofs.Tables.{or_assoc}
use Rattle.common_lemmas.proofs.Booleans.{or_false}

-- the literals that are kept, and behind them those of the list that are not among them
abbrev pub distinct_onto : List ℕ → List ℕ → List ℕ
distinct_onto kept [] = kept
distinct_onto kept (l ∷ ls) = cond (among l kept) (distinct_onto kept ls) (distinct_onto (kept ++ l ∷ []) ls)

-- ---- filters

filter-all : (p : ℕ → Bool) (xs : List ℕ) → ((x : ℕ) → p x ≡ true) → filter p xs ≡ xs
filter-all p [] h = refl
filter-all p (x ∷ xs) h = cond-true (p x) (x ∷ filter p xs) (filter p xs) (h x) ∙ ap (λ ys. x ∷ ys) (filter-all p xs h)

-- two filters in turn are one filter
filter-both : (p q r : ℕ → Bool) (xs : List ℕ) → ((x : ℕ) → r x ≡ (q x && p x)) → filter r xs ≡ filter p (filter q xs)
filter-both p q r [] h = refl
filter-both p q r (x ∷ xs) h =
    ⊎_elim
    (λ (t : q x ≡ true).
    ap (λ ys. cond (r x) (x ∷ ys) ys) (filter-both p q r xs h)
    ∙ ap (λ v. cond v (x ∷ filter p (filter q xs)) (filter p (filter q xs))) (h x ∙ ap (λ v. v && p x) t)
    ∙ sym (ap (filter p) (cond-true (q x) (x ∷ filter q xs) (filter q xs) t)))
    (λ (f : q x ≡ false).
    ap (λ ys. cond (r x) (x ∷ ys) ys) (filter-both p q r xs h)
    ∙ ap (λ v. cond v (x ∷ filter p (filter q xs)) (filter p (filter q xs))) (h x ∙ ap (λ v. v && p x) f)
    ∙ sym (ap (filter p) (cond-false (q x) (x ∷ filter q xs) (filter q xs) f)))
    (cases_Bool (q x))

-- ---- the loop

among-push : (k l : ℕ) (kept : List ℕ) → among k (kept ++ l ∷ []) ≡ (among k kept || eqb l k)
among-push k l [] = or_false (eqb l k)
among-push k l (x ∷ xs) = ap (λ v. eqb x k || v) (among-push k l xs) ∙ or_assoc (eqb x k) (among k xs) (eqb l k)

not_or : (a b : Bool) → not (a || b) ≡ (not b && not a)
not_or true true = refl
not_or true false = refl
not_or false true = refl
not_or false false = refl

-- a literal that is kept: those that are not kept differ from it
absorbed : (a b : Bool) → (b ≡ true → a ≡ true) → not a ≡ (not b && not a)
absorbed true true h = refl
absorbed true false h = refl
absorbed false true h = cc (h refl)
absorbed false false h = refl

distinct_onto-kept : (kept ls : List ℕ) → distinct_onto kept ls ≡ kept ++ filter (λ k. not (among k kept)) (distinct ls)
distinct_onto-kept kept [] = sym (append-nil kept)
distinct_onto-kept kept (l ∷ ls) =
    let left : List ℕ = filter (λ k. not (eqb l k)) (distinct ls) in
    ⊎_elim
    (λ (t : among l kept ≡ true).
    cond-true (among l kept) (distinct_onto kept ls) (distinct_onto (kept ++ l ∷ []) ls) t
    ∙ distinct_onto-kept kept ls
    ∙ ap (λ ys. kept ++ ys)
    (filter-both (λ k. not (among k kept)) (λ k. not (eqb l k)) (λ k. not (among k kept)) (distinct ls) (λ k. absorbed (among k kept) (eqb l k) (λ e. ap (λ x. among x kept) (sym (eqb-true l k e)) ∙ t))
    ∙ sym (cond-false (not (among l kept)) (l ∷ filter (λ k. not (among k kept)) left) (filter (λ k. not (among k kept)) left) (ap not t))))
    (λ (f : among l kept ≡ false).
    cond-false (among l kept) (distinct_onto kept ls) (distinct_onto (kept ++ l ∷ []) ls) f
    ∙ distinct_onto-kept (kept ++ l ∷ []) ls
    ∙ append_assoc kept (l ∷ []) (filter (λ k. not (among k (kept ++ l ∷ []))) (distinct ls))
    ∙ ap (λ ys. kept ++ l ∷ ys)
    (filter-both (λ k. not (among k kept)) (λ k. not (eqb l k)) (λ k. not (among k (kept ++ l ∷ []))) (distinct ls) (λ k. ap not (among-push k l kept) ∙ not_or (among k kept) (eqb l k)))
    ∙ ap (λ ys. kept ++ ys) (sym (cond-true (not (among l kept)) (l ∷ filter (λ k. not (among k kept)) left) (filter (λ k. not (among k kept)) left) (ap not f))))
    (cases_Bool (among l kept))

-- from nothing on, the loop gives each literal once
pub distinct_onto-nothing : (ls : List ℕ) → distinct_onto [] ls ≡ distinct ls
distinct_onto-nothing ls = distinct_onto-kept [] ls ∙ filter-all (λ k. not (among k [])) (distinct ls) (λ k. refl)
