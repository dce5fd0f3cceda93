-- Lemmas on entries and prefixes of lists, for trails and reasons.
use Rattle.std.proofs.Common.{◌≡◌, ℕ, ◌+◌, ◌-◌, ◌<◌, ◌≤◌, ◌⊎◌, List, [], ◌∷◌, ◌++◌, length, get_or, take, drop, refl, sym, ◌∙◌, ap, inl, inr, arith, Option, Some, None, subst, zero, suc}
use Rattle.std.specs.Prelude.{All, Any, Contains, slice_get, replicate}
use Rattle.std.proofs.lemmas.Bool.{cases_lt}
use Rattle.std.proofs.lemmas.List.{take_more, length-take, length-drop, get_or-take, get_or-drop, get_or_default}
use Rattle.std.proofs.lemmas.Option.{slice_get-get_or}
use Rattle.std.proofs.lemmas.List.Elements.{All-nil, All-cons, All-head, All-tail, Contains-push_cases, Contains-get_or}

pub All-left : {X : Type 0} (P : X → Type 0) (xs ys : List X) → All P (xs ++ ys) → All P xs
All-left P [] ys h = All-nil P
All-left P (x ∷ xs) ys h = All-cons P x xs (All-head P x (xs ++ ys) h) (All-left P xs ys (All-tail P x (xs ++ ys) h))

pub All-right : {X : Type 0} (P : X → Type 0) (xs ys : List X) → All P (xs ++ ys) → All P ys
All-right P [] ys h = h
All-right P (x ∷ xs) ys h = All-right P xs ys (All-tail P x (xs ++ ys) h)

pub replicate_push : {X : Type 0} (n : ℕ) (x : X) → replicate (suc n) x ≡ replicate n x ++ x ∷ []
replicate_push zero x = refl
replicate_push (suc n) x = ap (λ zs. x ∷ zs) (replicate_push n x)

-- an entry of a list with one more at its end
pub entry_cases : {X : Type 0} (xs : List X) (y z : X) (k : ℕ) → slice_get (xs ++ y ∷ []) k ≡ Some z → ((k < length xs) × (slice_get xs k ≡ Some z)) ⊎ ((k ≡ length xs) × (y ≡ z))
entry_cases [] y z zero e = let f : Some y ≡ Some z = e in inr (refl, cc)
entry_cases [] y z (suc k) e = let f : None ≡ Some z = e in cc
entry_cases (x ∷ xs) y z zero e = inl (omega arith, e)
entry_cases (x ∷ xs) y z (suc k) e = elim (entry_cases xs y z k e) [ inl w ↦ inl (omega (arith, w.0), w.1) | inr w ↦ inr (ap suc w.0, w.1) ]

-- an entry of two concatenated lists
pub entry_append : {X : Type 0} (xs ys : List X) (z : X) (k : ℕ) → slice_get (xs ++ ys) k ≡ Some z → ((k < length xs) × (slice_get xs k ≡ Some z)) ⊎ ((length xs ≤ k) × (slice_get ys (k - length xs) ≡ Some z))
entry_append [] ys z k e = let n : k - 0 ≡ k = omega arith in inr (omega arith, rw n e)
entry_append (x ∷ xs) ys z zero e = inl (omega arith, e)
entry_append (x ∷ xs) ys z (suc k) e = elim (entry_append xs ys z k e) [ inl w ↦ inl (omega (arith, w.0), w.1) | inr w ↦ let n : suc k - length (x ∷ xs) ≡ k - length xs = omega arith in inr (omega (arith, w.0), rw n w.1) ]

pub entry_replicate : {X : Type 0} (n : ℕ) (x z : X) (k : ℕ) → slice_get (replicate n x) k ≡ Some z → (k < n) × (x ≡ z)
entry_replicate zero x z k e = let f : None ≡ Some z = e in cc
entry_replicate (suc n) x z zero e = let f : Some x ≡ Some z = e in (omega arith, cc)
entry_replicate (suc n) x z (suc k) e = let w = entry_replicate n x z k e in (omega (arith, w.0), w.1)

pub entry_take : {X : Type 0} (ys : List X) (k n : ℕ) (z : X) → k < n → slice_get ys k ≡ Some z → slice_get (take n ys) k ≡ Some z
entry_take [] k n z b e = let f : None ≡ Some z = e in cc
entry_take (y ∷ ys) k zero z b e = absurd (omega arith)
entry_take (y ∷ ys) zero (suc n) z b e = e
entry_take (y ∷ ys) (suc k) (suc n) z b e = entry_take ys k n z (omega arith) e

pub entry_of_take : {X : Type 0} (ys : List X) (k n : ℕ) (z : X) → slice_get (take n ys) k ≡ Some z → (k < n) × (slice_get ys k ≡ Some z)
entry_of_take [] k zero z e = let f : None ≡ Some z = e in cc
entry_of_take [] k (suc n) z e = let f : None ≡ Some z = e in cc
entry_of_take (y ∷ ys) k zero z e = let f : None ≡ Some z = e in cc
entry_of_take (y ∷ ys) zero (suc n) z e = (omega arith, e)
entry_of_take (y ∷ ys) (suc k) (suc n) z e = let w = entry_of_take ys k n z e in (omega (arith, w.0), w.1)

-- an element before n + 1 is one before n, or the one at n
pub take_cases : (x n at : ℕ) (xs : List ℕ) → n + 1 ≡ at → n < length xs → Contains (take at xs) x → Contains (take n xs) x ⊎ (get_or xs n 0 ≡ x)
take_cases x n at xs e b h =
    let f : take at xs ≡ take n xs ++ get_or xs n 0 ∷ [] = rw (← e) (take_more xs n 0 b) in
    Contains-push_cases (take n xs) (get_or xs n 0) x (subst (λ (ys : List ℕ). Contains ys x) f h)

-- an element of the part before n stands at a place
pub place_in : (xs : List ℕ) (n x : ℕ) → Contains (take n xs) x → (q : ℕ) × (q < n) × (q < length xs) × (get_or xs q 0 ≡ x)
place_in xs n x h =
    let b : h.0 < n = omega (arith, h.1, length-take {A = ℕ}) in
    let m : h.0 < length xs = omega (arith, h.1, length-take {A = ℕ}) in
    (h.0, b, m, get_or_default xs h.0 0 x m ∙ sym (get_or-take n xs h.0 x b) ∙ h.2)

pub placed : (xs : List ℕ) (n q : ℕ) → q < n → q < length xs → Contains (take n xs) (get_or xs q 0)
placed xs n q b m = (q, omega (arith, length-take {A = ℕ}), get_or-take n xs q (get_or xs q 0) b ∙ get_or_default xs q (get_or xs q 0) 0 m)

pub grown_from_keeps : (a b : List ℕ) → take (length a) b ≡ a → All (Contains b) a
grown_from_keeps a b e = subst (λ (xs : List ℕ). All (Contains b) xs) e (λ k d h.
    let m : k < length b = omega (arith, length-take {A = ℕ}) in
    let n : k < length a = omega (arith, length-take {A = ℕ}) in
    let q : get_or (take (length a) b) k d ≡ get_or b k d = get_or-take (length a) b k d n in
    rw q (Contains-get_or b k d m))

-- an element before i + 1 that P holds of is before i, or the one at i
pub Any_take : (P : ℕ → Type 0) (xs : List ℕ) (i : ℕ) (d : ℕ) → i < length xs → Any P (take (i + 1) xs) → Any P (take i xs) ⊎ P (get_or xs i d)
Any_take P xs i d b h =
    let x : ℕ = h.1 in
    let m : h.0 < length xs = omega (arith, h.2, length-take {A = ℕ}) in
    let n : h.0 < i + 1 = omega (arith, h.2, length-take {A = ℕ}) in
    let e : get_or xs h.0 x ≡ x = sym (get_or-take (i + 1) xs h.0 x n) ∙ h.3 in
    elim (cases_lt h.0 i) [
      | inl c ↦ inl (h.0, x, omega (arith, length-take {A = ℕ}), get_or-take i xs h.0 x c ∙ e, h.4)
      | inr c ↦
          let k : h.0 ≡ i = omega arith in
          inr (subst P (sym e ∙ ap (λ (j : ℕ). get_or xs j x) k ∙ get_or_default xs i x d b) h.4)
    ]

-- parts of the list from n on
pub get_or-drop_at : (xs : List ℕ) (n q : ℕ) → n ≤ q → get_or (drop n xs) (q - n) 0 ≡ get_or xs q 0
get_or-drop_at xs n q b = let e : n + (q - n) ≡ q = omega arith in get_or-drop n xs (q - n) 0 ∙ ap (λ (k : ℕ). get_or xs k 0) e

pub part_has : (xs : List ℕ) (from to q : ℕ) → from ≤ q → q < to → to ≤ length xs → Contains (take (to - from) (drop from xs)) (get_or xs q 0)
part_has xs from to q a b c =
    let part : List ℕ = take (to - from) (drop from xs) in
    let k : q - from < to - from = omega arith in
    let l : q - from < length part = omega (arith, length-take {A = ℕ}, length-drop {A = ℕ}) in
    let e : get_or part (q - from) 0 ≡ get_or xs q 0 = get_or-take (to - from) (drop from xs) (q - from) 0 k ∙ get_or-drop_at xs from q a in
    (q - from, l, get_or_default part (q - from) (get_or xs q 0) 0 l ∙ e)

pub place_in_part : (xs : List ℕ) (from to x : ℕ) → to ≤ length xs → Contains (take (to - from) (drop from xs)) x → (q : ℕ) × (from ≤ q) × (q < to) × (get_or xs q 0 ≡ x)
place_in_part xs from to x b h =
    let part : List ℕ = take (to - from) (drop from xs) in
    let k : h.0 < to - from = omega (arith, h.1, length-take {A = ℕ}) in
    let z : from + h.0 - from ≡ h.0 = omega arith in
    let e : get_or part h.0 0 ≡ get_or xs (from + h.0) 0 = get_or-take (to - from) (drop from xs) h.0 0 k ∙ subst (λ (y : ℕ). get_or (drop from xs) y 0 ≡ get_or xs (from + h.0) 0) z (get_or-drop_at xs from (from + h.0) (omega arith)) in
    (from + h.0, omega arith, omega arith, sym e ∙ (get_or_default part h.0 0 x h.1 ∙ h.2))

pub reason_of : (reasons : List (Option ℕ)) (n : ℕ) (r v : Option ℕ) → n < length reasons → r ≡ get_or reasons n r → r ≡ v → slice_get reasons n ≡ Some v
reason_of reasons n r v b e f = slice_get-get_or reasons n r b ∙ ap (λ (x : Option ℕ). Some x) (sym e ∙ f)
