-- Elements by place in lists that are made of lists.
use Rattle.std.proofs.Common.{◌≡◌, ℕ, zero, suc, ◌+◌, ◌-◌, ◌*◌, ◌/◌, ◌%◌, ◌<◌, ◌≤◌, List, [], ◌∷◌, ◌++◌, ◌⊎◌, inl, inr, map, take, drop, get_or, length, refl, sym, ◌∙◌, ap, arith, Option, Some, None, slice_get, length-append}
use Rattle.std.specs.Option.{option_map, option_and_then}
use Rattle.std.specs.List.{flat_map}
use Rattle.std.proofs.lemmas.Bool.Decides.{leb_tells}
use Rattle.std.proofs.Math.Seq.{drop-cons}
use Rattle.std.proofs.lemmas.Nat.{div-add-mod', mod_below}
use Rattle.std.proofs.lemmas.Option.{slice_get-map, slice_get_within, slice_get_past, option_and_then_some, same_Some}
use Rattle.seq_enum.specs.Alphabet.{numbers_from, IsPlace}
use Rattle.common_lemmas.proofs.Lists.{get_front}
use Rattle.seq_enum.proofs.CostLines.{length-from}

pub zero_or_more : (n : ℕ) → (n ≡ 0) ⊎ (0 < n)
zero_or_more zero = inl refl
zero_or_more (suc n) = inr (omega arith)

-- the number at a place
pub numbers_at : (first count i : ℕ) → i < count → slice_get (numbers_from first count) i ≡ Some (first + i)
unfolding numbers_from
numbers_at first zero i h = absurd (omega arith)
numbers_at first (suc count) zero h = ap Some (omega arith)
numbers_at first (suc count) (suc i) h =
    let lt : i < count = omega arith in
    let same : suc first + i ≡ first + suc i = omega arith in
    numbers_at (suc first) count i lt ∙ ap Some same

pub numbers_past : (first count i : ℕ) → count ≤ i → slice_get (numbers_from first count) i ≡ None
numbers_past first count i h =
    slice_get_past (numbers_from first count) i (omega (arith, length-from first count))

-- the numbers below `count` by place
pub number_here : (count i n : ℕ) → i < count → n ≡ i → slice_get (numbers_from 0 count) i ≡ Some n
number_here count i n h e = numbers_at 0 count i h ∙ ap Some (omega (arith, e))

pub number_past : (count i : ℕ) → count ≤ i → slice_get (numbers_from 0 count) i ≡ None
number_past count i h = numbers_past 0 count i h

pub ruleset numbers_by_place = (number_here, number_past, length-from)

pub get_back : {A : Type 0} (xs ys : List A) (i : ℕ) → length xs ≤ i → slice_get (xs ++ ys) i ≡ slice_get ys (i - length xs)
get_back [] ys i h = ap (slice_get ys) (omega arith)
get_back (x ∷ xs) ys zero h = absurd (omega arith)
get_back (x ∷ xs) ys (suc i) h =
    let e : i - length xs ≡ suc i - suc (length xs) = omega arith in
    get_back xs ys i (omega arith) ∙ ap (slice_get ys) e

-- lists of n elements each, one after the other
pub get-flat_map : {X A : Type 0} (f : X → List A) (n : ℕ) → (xs : List X)
    → ((j : ℕ) (x : X) → slice_get xs j ≡ Some x → length (f x) ≡ n)
    → (a b : ℕ) → b < n → slice_get (flat_map f xs) (a * n + b) ≡ option_and_then (λ x. slice_get (f x) b) (slice_get xs a)
get-flat_map f n [] each a b h = refl
get-flat_map f n (x ∷ xs) each zero b h =
    let size : length (f x) ≡ n = each 0 x refl in
    let start : zero * n + b ≡ b = omega arith in
    rw start (get_front (f x) (flat_map f xs) b (omega arith))
get-flat_map f n (x ∷ xs) each (suc a) b h =
    let size : length (f x) ≡ n = each 0 x refl in
    let more : suc a * n + b - length (f x) ≡ a * n + b = omega arith in
    let past : length (f x) ≤ suc a * n + b = omega arith in
    get_back (f x) (flat_map f xs) (suc a * n + b) past
    ∙ ap (slice_get (flat_map f xs)) more
    ∙ get-flat_map f n xs (λ j y e. each (suc j) y e) a b h

pub length-flat_map-even : {X A : Type 0} (f : X → List A) (n : ℕ) → (xs : List X)
    → ((j : ℕ) (x : X) → slice_get xs j ≡ Some x → length (f x) ≡ n) → length (flat_map f xs) ≡ length xs * n
length-flat_map-even f n [] each = omega arith
length-flat_map-even f n (x ∷ xs) each =
    let size : length (f x) ≡ n = each 0 x refl in
    let rest : length (flat_map f xs) ≡ length xs * n = length-flat_map-even f n xs (λ j y e. each (suc j) y e) in
    omega (arith, length-append (f x) (flat_map f xs))

-- the same by the index alone
pub get-flat_map-digits : {X A : Type 0} (f : X → List A) (n : ℕ) → 0 < n → (xs : List X)
    → ((j : ℕ) (x : X) → slice_get xs j ≡ Some x → length (f x) ≡ n)
    → (i : ℕ) → slice_get (flat_map f xs) i ≡ option_and_then (λ x. slice_get (f x) (i % n)) (slice_get xs (i / n))
get-flat_map-digits f n pos xs each i =
    let parts : i ≡ i / n * n + i % n = sym (div-add-mod' i n) in
    ap (slice_get (flat_map f xs)) parts ∙ get-flat_map f n xs each (i / n) (i % n) (mod_below i n pos)

unmoved : (q : Option ℕ) → option_map (λ b. 0 + b) q ≡ q
unmoved None = refl
unmoved (Some b) = ap Some (omega arith)

moved : {A : Type 0} (xs ys : List A) (q : Option ℕ)
    → option_map (λ b. length (xs ++ ys) + b) q ≡ option_map (λ i. length xs + i) (option_map (λ b. length ys + b) q)
moved xs ys None = refl
moved xs ys (Some b) = ap Some (omega (arith, length-append xs ys))

-- two digits determine the place in lists of n elements each
pub IsPlace-flat_map : {X A : Type 0} (f : X → List A) (n : ℕ) (xs : List X)
    → ((j : ℕ) (x : X) → slice_get xs j ≡ Some x → length (f x) ≡ n)
    → (x : X) (y : A) → ((j : ℕ) (z : X) → slice_get (f z) j ≡ Some y → z ≡ x)
    → (p q : Option ℕ) → IsPlace p xs x → IsPlace q (f x) y
    → IsPlace (option_and_then (λ a. option_map (λ b. a * n + b) q) p) (flat_map f xs) y
IsPlace-flat_map {X} {A} f n xs each x y only p q in_xs in_f = record {
  stands = λ i e. stands_at p q in_xs in_f i e;
  found = λ i e.
      let within : i < length (flat_map f xs) = slice_get_within (flat_map f xs) i y e in
      let pos : 0 < n = positive (length-flat_map-even f n xs each) within in
      let split : option_and_then (λ z. slice_get (f z) (i % n)) (slice_get xs (i / n)) ≡ Some y = sym (get-flat_map-digits f n pos xs each i) ∙ e in
      option_and_then_some (λ z. slice_get (f z) (i % n)) (slice_get xs (i / n)) y split
      (λ z at here.
      let is : z ≡ x = only (i % n) z here in
      let first : p ≡ Some (i / n) = in_xs.found (i / n) (at ∙ ap Some is) in
      let second : q ≡ Some (i % n) = in_f.found (i % n) (sym (ap (λ w. slice_get (f w) (i % n)) is) ∙ here) in
      rw (first, second) (ap Some (div-add-mod' i n)));
}
  where
    positive : {m i : ℕ} → m ≡ length xs * n → i < m → 0 < n
    positive {m} {i} e h = elim (zero_or_more n) [ inl z ↦ absurd (omega (arith, ap (λ v. length xs * v) z)) | inr s ↦ s ]

    stands_at : (p q : Option ℕ) → IsPlace p xs x → IsPlace q (f x) y → (i : ℕ)
        → option_and_then (λ a. option_map (λ b. a * n + b) q) p ≡ Some i → slice_get (flat_map f xs) i ≡ Some y
    stands_at None q in_xs in_f i e = cc
    stands_at (Some a) None in_xs in_f i e = cc
    stands_at (Some a) (Some b) in_xs in_f i e =
        let here : slice_get xs a ≡ Some x = in_xs.stands a refl in
        let there : slice_get (f x) b ≡ Some y = in_f.stands b refl in
        let low : b < n = omega (arith, slice_get_within (f x) b y there, each a x here) in
        let is : a * n + b ≡ i = same_Some _ _ e in
        rw (← is) (get-flat_map f n xs each a b low ∙ rw here there)

pub IsPlace-map : {X A : Type 0} (f : X → A) (xs : List X) (x : X) → ((z : X) → f z ≡ f x → z ≡ x)
    → (p : Option ℕ) → IsPlace p xs x → IsPlace p (map f xs) (f x)
IsPlace-map {X} {A} f xs x only p in_xs = record {
  stands = λ i e. slice_get-map f xs i ∙ ap (option_map f) (in_xs.stands i e);
  found = λ i e. found_at (slice_get xs i) i refl (sym (slice_get-map f xs i) ∙ e);
}
  where
    found_at : (o : Option X) (i : ℕ) → slice_get xs i ≡ o → option_map f o ≡ Some (f x) → p ≡ Some i
    found_at None i at e = cc
    found_at (Some z) i at e = in_xs.found i (at ∙ ap Some (only z (same_Some _ _ e)))

pub IsPlace-unmap : {X A : Type 0} (f : X → A) (xs : List X) (x : X) → ((z : X) → f z ≡ f x → z ≡ x)
    → (p : Option ℕ) → IsPlace p (map f xs) (f x) → IsPlace p xs x
IsPlace-unmap {X} {A} f xs x only p in_map = record {
  stands = λ i e. stands_at (slice_get xs i) (sym (slice_get-map f xs i) ∙ in_map.stands i e);
  found = λ i e. in_map.found i (slice_get-map f xs i ∙ ap (option_map f) e);
}
  where
    stands_at : (o : Option X) → option_map f o ≡ Some (f x) → o ≡ Some x
    stands_at None e = absurd cc
    stands_at (Some z) e = ap Some (only z (same_Some _ _ e))

-- an element of concatenated lists is in one of them
pub flat_map_at : {X A P : Type 0} (f : X → List A) (xs : List X) (i : ℕ) (a : A) → slice_get (flat_map f xs) i ≡ Some a
    → ((h : ℕ) (x : X) (j : ℕ) → slice_get xs h ≡ Some x → slice_get (f x) j ≡ Some a → P) → P
flat_map_at f [] i a e next = absurd cc
flat_map_at f (x ∷ xs) i a e next =
    elim (leb_tells (length (f x)) i) [
      | inl h ↦ flat_map_at f xs (i - length (f x)) a (sym (get_back (f x) (flat_map f xs) i h.1) ∙ e) (λ n z j at here. next (suc n) z j at here)
      | inr h ↦ next 0 x i refl (sym (get_front (f x) (flat_map f xs) i h.1) ∙ e)
    ]

pub flat_map_from : {X A P : Type 0} (f : X → List A) (xs : List X) (i : ℕ) (a : A) → slice_get (flat_map f xs) i ≡ Some a
    → ((x : X) (j : ℕ) → slice_get (f x) j ≡ Some a → P) → P
flat_map_from f xs i a e next = flat_map_at f xs i a e (λ h x j at here. next x j here)

-- a place in the first of two lists, where the second lacks it
pub IsPlace-front : {A : Type 0} (p : Option ℕ) (xs ys : List A) (x : A) → IsPlace p xs x → ((i : ℕ) → slice_get ys i ≡ Some x → ⊥) → IsPlace p (xs ++ ys) x
IsPlace-front p xs ys x in_xs absent = record {
  stands = λ i e. let at : slice_get xs i ≡ Some x = in_xs.stands i e in get_front xs ys i (slice_get_within xs i x at) ∙ at;
  found = λ i e. elim (leb_tells (length xs) i) [
    | inl h ↦ absurd (absent (i - length xs) (sym (get_back xs ys i h.1) ∙ e))
    | inr h ↦ in_xs.found i (sym (get_front xs ys i h.1) ∙ e)
  ];
}

-- a place in the second of two lists, where the first lacks it
pub IsPlace-behind : {A : Type 0} (p : Option ℕ) (xs ys : List A) (x : A) → IsPlace p ys x → ((i : ℕ) → slice_get xs i ≡ Some x → ⊥)
    → IsPlace (option_map (λ i. length xs + i) p) (xs ++ ys) x
IsPlace-behind {A} p xs ys x in_ys absent = record {
  stands = λ i e. stands_at p in_ys i e;
  found = λ i e. elim (leb_tells (length xs) i) [
    | inl h ↦ ap (option_map (λ j. length xs + j)) (in_ys.found (i - length xs) (sym (get_back xs ys i h.1) ∙ e)) ∙ ap Some (omega (arith, h.1))
    | inr h ↦ absurd (absent i (sym (get_front xs ys i h.1) ∙ e))
  ];
}
  where
    stands_at : (p : Option ℕ) → IsPlace p ys x → (i : ℕ) → option_map (λ j. length xs + j) p ≡ Some i → slice_get (xs ++ ys) i ≡ Some x
    stands_at None in_ys i e = cc
    stands_at (Some j) in_ys i e =
        let is : length xs + j ≡ i = same_Some _ _ e in
        let at : i - length xs ≡ j = omega arith in
        get_back xs ys i (omega arith) ∙ ap (slice_get ys) at ∙ in_ys.stands j refl

-- a place in lists one after the other, of any lengths
pub IsPlace-lists : {X A : Type 0} (f : X → List A) (xs : List X) (x : X) (y : A) → ((j : ℕ) (z : X) → slice_get (f z) j ≡ Some y → z ≡ x)
    → (a : ℕ) → IsPlace (Some a) xs x → (q : Option ℕ) → IsPlace q (f x) y
    → IsPlace (option_map (λ b. length (flat_map f (take a xs)) + b) q) (flat_map f xs) y
IsPlace-lists f [] x y only a in_xs q in_f = let no : None ≡ Some x = in_xs.stands a refl in absurd cc
IsPlace-lists f (z ∷ xs) x y only zero in_xs q in_f =
    let is : z ≡ x = same_Some z x (in_xs.stands 0 refl) in
    let absent : (j : ℕ) → slice_get xs j ≡ Some x → ⊥ = λ j e. let no : Some 0 ≡ Some (suc j) = in_xs.found (suc j) e in omega (arith, same_Some 0 (suc j) no) in
    let here : IsPlace q (f z) y = rw is in_f in
    rw (unmoved q) (IsPlace-front q (f z) (flat_map f xs) y here
    (λ i e. flat_map_at f xs i y e (λ h v j at there. absent h (at ∙ ap Some (only j v there)))))
IsPlace-lists f (z ∷ xs) x y only (suc a) in_xs q in_f =
    let rest : IsPlace (Some a) xs x = record {
      stands = λ i e. in_xs.stands (suc i) (ap (option_map suc) e);
      found = λ i e. let more : Some (suc a) ≡ Some (suc i) = in_xs.found (suc i) e in ap Some (omega (arith, same_Some (suc a) (suc i) more));
    } in
    let other : z ≡ x → ⊥ = λ e. let no : Some (suc a) ≡ Some 0 = in_xs.found 0 (ap Some e) in omega (arith, same_Some (suc a) 0 no) in
    rw (moved (f z) (flat_map f (take a xs)) q) (IsPlace-behind (option_map (λ b. length (flat_map f (take a xs)) + b) q) (f z) (flat_map f xs) y (IsPlace-lists f xs x y only a rest q in_f)
    (λ i e. other (only i z e)))

pub ruleset gets_append = (get_front, get_back)

-- the piece at a place, and those after it
pub piece_here : {X A : Type 0} (f : X → List A) (xs : List X) (i n : ℕ) (d : X) → i < length xs → n < length (f (get_or xs i d))
    → slice_get (flat_map f (drop i xs)) n ≡ slice_get (f (get_or xs i d)) n
piece_here f xs i n d h low =
    ap (λ ys. slice_get (flat_map f ys) n) (drop-cons xs i d h) ∙ get_front (f (get_or xs i d)) (flat_map f (drop (suc i) xs)) n low

pub piece_later : {X A : Type 0} (f : X → List A) (xs : List X) (i n : ℕ) (d : X) → i < length xs → length (f (get_or xs i d)) ≤ n
    → slice_get (flat_map f (drop i xs)) n ≡ slice_get (flat_map f (drop (i + 1) xs)) (n - length (f (get_or xs i d)))
piece_later f xs i n d h past =
    let next : suc i ≡ i + 1 = omega arith in
    ap (λ ys. slice_get (flat_map f ys) n) (drop-cons xs i d h) ∙ get_back (f (get_or xs i d)) (flat_map f (drop (suc i) xs)) n past
    ∙ ap (λ j. slice_get (flat_map f (drop j xs)) (n - length (f (get_or xs i d)))) next

pub ruleset pieces = (piece_here, piece_later)
