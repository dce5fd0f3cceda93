-- Places, labels and code points of a listing in which a window was replaced.
use Rattle.std.proofs.Common.{◌≡◌, ◌≢◌, ℕ, zero, suc, ◌+◌, ◌-◌, ◌<◌, ◌≤◌, ◌==◌, ◌&&◌, ◌||◌, eqb-true, Bool, true, false, min, List, [], ◌∷◌, ◌++◌, length, take, drop, map, Option, Some, None, refl, sym, ap, ◌∙◌, subst, ◌⊎◌, ◌/◌, unwrap_or, inl, inr, arith, if◌then◌else◌}
use Rattle.std.specs.Prelude.{slice_get}
use Rattle.std.specs.Str.{bytes_eq}
use Rattle.std.proofs.lemmas.Bool.{cases_lt}
use Rattle.std.proofs.lemmas.Option.{same_Some}
use Rattle.std.specs.Option.{option_map}
use Rattle.thumb_instr.specs.declared.instr.Instr.{Instr}
use Rattle.thumb_model.specs.Effect.{one_of}
use Rattle.thumb_model.specs.Listing.{Name, Mention, Place, Op, Word, plain, Label, Code, is_op_place, is_code, place_among, place_of, has_label, place_mentions, is_mentioned, is_call, call_count, return_places}
use Rattle.thumb_model.specs.Naming.{Naming, Fits, points_of, points, returns_from}
use Rattle.thumb_model.specs.Steps.{label_place, least_or, point_among}
use Rattle.thumb_model.specs.Literals.{HasLiterals, is_word_place}
use Rattle.thumb_model.specs.Replaced.{moved, move_label, replaced}
use Rattle.thumb_model.proofs.Lists.{get_drop, get_take, get_back, length_map, take_all, take_back, length_drop}
use Rattle.common_lemmas.proofs.Lists.{get_front}

-- ---- calls ----

-- no call is among the places
abbrev pub AreNoCalls : List Place → Type 0
AreNoCalls [] = Unit {0}
AreNoCalls (x ∷ xs) = (is_call x ≡ false) × AreNoCalls xs

pub count_append : (xs ys : List Place) → call_count (xs ++ ys) ≡ call_count xs + call_count ys
count_append [] ys = omega arith
count_append (x ∷ xs) ys =
    let h = count_append xs ys in
    elim (is_call x) as (λ b. (if b then call_count (xs ++ ys) + 1 else call_count (xs ++ ys)) ≡ (if b then call_count xs + 1 else call_count xs) + call_count ys) [ true ↦ omega arith | false ↦ h ]

count_none : (xs : List Place) → AreNoCalls xs → call_count xs ≡ 0
count_none [] h = refl
count_none (x ∷ xs) h = rw h.0 (count_none xs h.1)

pub returns_append : (names : Naming) (k q m r : ℕ) (xs ys : List Place) → m ≡ k + call_count xs → r ≡ q + length xs → returns_from names k q (xs ++ ys) ≡ returns_from names k q xs ++ returns_from names m r ys
returns_append names k q m r [] ys e f = ap (λ a. returns_from names a q ys) (let e' : k ≡ m = omega arith in e') ∙ ap (λ a. returns_from names m a ys) (let f' : q ≡ r = omega arith in f')
returns_append names k q m r (x ∷ xs) ys e f =
    elim (is_call x) as (λ b. is_call x ≡ b → (if b then (names.return_word k, q + 1) ∷ returns_from names (k + 1) (q + 1) (xs ++ ys) else returns_from names k (q + 1) (xs ++ ys)) ≡ (if b then (names.return_word k, q + 1) ∷ returns_from names (k + 1) (q + 1) xs else returns_from names k (q + 1) xs) ++ returns_from names m r ys) [
      | true ↦ λ t. ap (λ l. (names.return_word k, q + 1) ∷ l) (returns_append names (k + 1) (q + 1) m r xs ys (let c : call_count (x ∷ xs) ≡ call_count xs + 1 = rw t refl in omega arith) (omega arith))
      | false ↦ λ t. returns_append names k (q + 1) m r xs ys (let c : call_count (x ∷ xs) ≡ call_count xs = rw t refl in omega arith) (omega arith)
    ] refl

returns_none : (names : Naming) (k q : ℕ) (xs : List Place) → AreNoCalls xs → returns_from names k q xs ≡ []
returns_none names k q [] h = refl
returns_none names k q (x ∷ xs) h = rw h.0 (returns_none names k (q + 1) xs h.1)

-- the return points of places that all move by the same distance
returns_moved : (names : Naming) (to : ℕ → ℕ) (k q r : ℕ) (xs : List Place) → r ≡ to q → ((j : ℕ) → j ≤ length xs → to (q + j) ≡ to q + j) → returns_from names k r xs ≡ map (λ a. (a.0, to a.1)) (returns_from names k q xs)
returns_moved names to k q r [] e h = refl
returns_moved names to k q r (x ∷ xs) e h =
    let one : to (q + 1) ≡ to q + 1 = h 1 (omega arith) in
    let rest : (j : ℕ) → j ≤ length xs → to (q + 1 + j) ≡ to (q + 1) + j = λ j l. let a = h (j + 1) (omega arith) in let b : to (q + 1 + j) ≡ to (q + (j + 1)) = ap to (omega arith) in omega arith in
    let here : r + 1 ≡ to (q + 1) = omega arith in
    elim (is_call x) as (λ b. (if b then (names.return_word k, r + 1) ∷ returns_from names (k + 1) (r + 1) xs else returns_from names k (r + 1) xs) ≡ map (λ a. (a.0, to a.1)) (if b then (names.return_word k, q + 1) ∷ returns_from names (k + 1) (q + 1) xs else returns_from names k (q + 1) xs)) [
      | true ↦ cons_same (names.return_word k) _ _ _ _ here (returns_moved names to (k + 1) (q + 1) (r + 1) xs here rest)
      | false ↦ returns_moved names to k (q + 1) (r + 1) xs here rest
    ]
  where
    cons_same : (w a b : ℕ) (l m : List (ℕ × ℕ)) → a ≡ b → l ≡ m → (let z : List (ℕ × ℕ) = (w, a) ∷ l in z) ≡ (w, b) ∷ m
    cons_same w a b l m e f = cc

map_append : (f : ℕ × ℕ → ℕ × ℕ) (xs ys : List (ℕ × ℕ)) → map f (xs ++ ys) ≡ map f xs ++ map f ys
map_append f [] ys = refl
map_append f (x ∷ xs) ys = ap (λ l. f x ∷ l) (map_append f xs ys)

take_drop : (n : ℕ) (xs : List Place) → xs ≡ take n xs ++ drop n xs
take_drop zero xs = refl
take_drop (suc n) [] = refl
take_drop (suc n) (x ∷ xs) = ap (λ l. x ∷ l) (take_drop n xs)

drop_drop : (n m k : ℕ) (xs : List Place) → k ≡ n + m → drop m (drop n xs) ≡ drop k xs
drop_drop zero m k xs e = ap (λ j. drop j xs) (let f : m ≡ k = omega arith in f)
drop_drop (suc n) m zero xs e = absurd (omega arith)
drop_drop (suc n) m (suc k) [] e = drop_nothing m
  where
    drop_nothing : (m : ℕ) → drop m (let l : List Place = [] in l) ≡ []
    drop_nothing zero = refl
    drop_nothing (suc m) = refl
drop_drop (suc n) m (suc k) (x ∷ xs) e = drop_drop n m k xs (omega arith)

take_front : (xs ys : List Place) (n : ℕ) → n ≤ length xs → take n (xs ++ ys) ≡ take n xs
take_front xs ys zero h = refl
take_front [] ys (suc n) h = absurd (omega arith)
take_front (x ∷ xs) ys (suc n) h = ap (λ l. x ∷ l) (take_front xs ys n (omega arith))

-- an item of the second list is one of the appended lists
pub one_of_back : (x : ℕ) (xs ys : List ℕ) → one_of x ys ≡ true → one_of x (xs ++ ys) ≡ true
one_of_back x [] ys h = h
one_of_back x (y ∷ xs) ys h = elim (x == y) as (λ b. (b || one_of x (xs ++ ys)) ≡ true) [ true ↦ refl | false ↦ one_of_back x xs ys h ]

-- an item of the appended lists is one of the first or of the second
pub one_of_append : (x : ℕ) (xs ys : List ℕ) → one_of x (xs ++ ys) ≡ true → (one_of x xs ≡ true) ⊎ (one_of x ys ≡ true)
one_of_append x [] ys h = inr h
one_of_append x (y ∷ xs) ys h = elim (x == y) as (λ b. (b || one_of x (xs ++ ys)) ≡ true → ((b || one_of x xs) ≡ true) ⊎ (one_of x ys ≡ true)) [ true ↦ λ g. inl refl | false ↦ λ g. one_of_append x xs ys g ] h

-- a return point of places from p on lies after p, and at most right after the last of them
return_within : (places : List Place) (p q : ℕ) → one_of q (return_places p places) ≡ true → (p < q) × (q ≤ p + length places)
return_within [] p q e = absurd (cc)
return_within (x ∷ xs) p q e =
    elim (is_call x) as (λ b. one_of q (if b then (p + 1) ∷ return_places (p + 1) xs else return_places (p + 1) xs) ≡ true → (p < q) × (q ≤ p + length (x ∷ xs))) [
      | true ↦ λ f. elim (q == (p + 1)) as (λ b. (q == (p + 1)) ≡ b → (b || one_of q (return_places (p + 1) xs)) ≡ true → (p < q) × (q ≤ p + length (x ∷ xs))) [
        | true ↦ λ t g. (let s : q ≡ p + 1 = eqb-true q (p + 1) t in (omega arith, omega arith))
        | false ↦ λ t g. (let r = return_within xs (p + 1) q g in (omega (arith, r.0), omega (arith, r.1)))
      ] refl f
      | false ↦ λ f. (let r = return_within xs (p + 1) q f in (omega (arith, r.0), omega (arith, r.1)))
    ] e

places_append : (q r : ℕ) (xs ys : List Place) → r ≡ q + length xs → return_places q (xs ++ ys) ≡ return_places q xs ++ return_places r ys
places_append q r [] ys f = ap (λ a. return_places a ys) (let f' : q ≡ r = omega arith in f')
places_append q r (x ∷ xs) ys f =
    elim (is_call x) as (λ b. (if b then (q + 1) ∷ return_places (q + 1) (xs ++ ys) else return_places (q + 1) (xs ++ ys)) ≡ (if b then (q + 1) ∷ return_places (q + 1) xs else return_places (q + 1) xs) ++ return_places r ys) [
      | true ↦ ap (λ l. (q + 1) ∷ l) (places_append (q + 1) r xs ys (omega arith))
      | false ↦ places_append (q + 1) r xs ys (omega arith)
    ]

places_none : (q : ℕ) (xs : List Place) → AreNoCalls xs → return_places q xs ≡ []
places_none q [] h = refl
places_none q (x ∷ xs) h = rw h.0 (places_none (q + 1) xs h.1)

-- ---- mentioned names ----

mentioned_append : (n : Name) (xs ys : List Place) → is_mentioned n (xs ++ ys) ≡ (is_mentioned n xs || is_mentioned n ys)
mentioned_append n [] ys = refl
mentioned_append n (x ∷ xs) ys =
    elim (place_mentions n x) as (λ b. (b || is_mentioned n (xs ++ ys)) ≡ ((b || is_mentioned n xs) || is_mentioned n ys)) [ true ↦ refl | false ↦ mentioned_append n xs ys ]

mentioned_plain : (n : Name) (is : List Instr) → is_mentioned n (map plain is) ≡ false
mentioned_plain n [] = refl
mentioned_plain n (i ∷ is) = mentioned_plain n is

or_more : (a b c : Bool) → (a || c) ≡ true → (a || (b || c)) ≡ true
or_more true b c h = refl
or_more false true c h = refl
or_more false false c h = h

mentioned_less : (n : Name) (front : List Place) (is : List Instr) (back : List Place) → is_mentioned n (front ++ (map plain is ++ back)) ≡ true → (is_mentioned n front || is_mentioned n back) ≡ true
mentioned_less n front is back h =
    ap (λ b. is_mentioned n front || (b || is_mentioned n back)) (sym (mentioned_plain n is)) ∙ ap (λ b. is_mentioned n front || b) (sym (mentioned_append n (map plain is) back)) ∙ sym (mentioned_append n front (map plain is ++ back)) ∙ h

mentioned_more : (n : Name) (front window back : List Place) → (is_mentioned n front || is_mentioned n back) ≡ true → is_mentioned n (front ++ (window ++ back)) ≡ true
mentioned_more n front window back h =
    mentioned_append n front (window ++ back) ∙ ap (λ b. is_mentioned n front || b) (mentioned_append n window back) ∙ or_more (is_mentioned n front) (is_mentioned n window) (is_mentioned n back) h

-- ---- a replacement ----

-- the conditions on a replacement, but for the effect of its instructions
pub record IsReplacement (code : Code) (p count : ℕ) (is : List Instr) : Type 0 where
  pub within : p + count ≤ length code.places
  pub some : 0 < count
  pub no_longer : length is ≤ count
  pub first : is_op_place (slice_get code.places p) ≡ true
  pub no_call : AreNoCalls (take count (drop p code.places))
  pub no_new_call : AreNoCalls (map plain is)
  pub unlabelled : (k : ℕ) (l : Label) → slice_get code.labels k ≡ Some l → (l.place ≤ p) ⊎ (p + count ≤ l.place)
  pub labels_stay : (k : ℕ) (l : Label) → slice_get code.labels k ≡ Some l → is_code code.places l ≡ true → is_code (replaced code p count is).places (move_label p (count - length is) l) ≡ true

-- outside the window, or at its first place
abbrev pub IsOutside : ℕ → ℕ → ℕ → Type 0
IsOutside p count q = (q ≤ p) ⊎ (p + count ≤ q)

min_left : (a b : ℕ) → a ≤ b → min a b ≡ a
min_left a b h = omega arith

min_right : (a b : ℕ) → b ≤ a → min a b ≡ b
min_right a b h = omega arith

moved_keeps_order : (p gone a b : ℕ) → a ≤ b → moved p gone a ≤ moved p gone b
moved_keeps_order p gone a b h = omega arith

moved_min : (p gone a b : ℕ) → min (moved p gone a) (moved p gone b) ≡ moved p gone (min a b)
moved_min p gone a b =
    elim (cases_lt a b) [
      | inl h ↦ (let k = moved_keeps_order p gone a b (omega arith) in let e : min a b ≡ a = omega arith in let f : min (moved p gone a) (moved p gone b) ≡ moved p gone a = min_left _ _ k in f ∙ ap (moved p gone) (sym e))
      | inr h ↦ (let k = moved_keeps_order p gone b a h in let e : min a b ≡ b = omega arith in let f : min (moved p gone a) (moved p gone b) ≡ moved p gone b = min_right _ _ k in f ∙ ap (moved p gone) (sym e))
    ]

-- no place is both an instruction and data
not_both : (o : Option Place) → is_op_place o ≡ true → is_word_place o ≡ true → ⊥
not_both None h k = absurd (cc)
not_both (Some (Op i mention)) h k = absurd (cc)
not_both (Some (Word v)) h k = absurd (cc)

-- an instruction of a window mentions no name
plain_none : (is : List Instr) (j : ℕ) (i : Instr) (m : Mention) → slice_get (map plain is) j ≡ Some (Op i (Some m)) → ⊥
plain_none [] j i m e = absurd (cc)
plain_none (x ∷ is) zero i m e = absurd (cc)
plain_none (x ∷ is) (suc j) i m e = plain_none is j i m e

option_back : (f : ℕ → ℕ) (o : Option ℕ) (q : ℕ) → option_map f o ≡ Some q → (r : ℕ) × (o ≡ Some r) × (q ≡ f r)
option_back f None q e = absurd (cc)
option_back f (Some r) q e = (r, refl, sym (same_Some (f r) q e))

module _ (code : Code) (p count : ℕ) (is : List Instr) where
  abbrev places' : List Place
  places' = (replaced code p count is).places

  abbrev to : ℕ → ℕ
  to = moved p (count - length is)

  module _ (r : IsReplacement code p count is) where
    -- a place before the window
    pub fetch_before : (q : ℕ) → q < p → slice_get places' q ≡ slice_get code.places q
    fetch_before q h =
        let n : length (take p code.places) ≡ p = take_all p code.places (omega (arith, r.within)) in
        get_front (take p code.places) _ q (omega arith) ∙ get_take p code.places q h

    -- a place of the new instructions
    pub fetch_window : (j : ℕ) → j < length is → slice_get places' (p + j) ≡ slice_get (map plain is) j
    fetch_window j h =
        let n : length (take p code.places) ≡ p = take_all p code.places (omega (arith, r.within)) in
        let m : length (map plain is) ≡ length is = length_map plain is in
        get_back (take p code.places) _ j (p + j) (omega arith) ∙ get_front (map plain is) _ j (omega arith)

    -- a place behind the window
    pub fetch_after : (q : ℕ) → p + count ≤ q → slice_get places' (to q) ≡ slice_get code.places q
    fetch_after q h =
        let n : length (take p code.places) ≡ p = take_all p code.places (omega (arith, r.within)) in
        let m : length (map plain is) ≡ length is = length_map plain is in
        let s = r.no_longer in let o = r.some in
        let t : to q ≡ q - (count - length is) = omega arith in
        ap (slice_get places') t
        ∙ get_back (take p code.places) _ (q - (count - length is) - p) _ (omega arith)
        ∙ get_back (map plain is) _ (q - count - p) _ (omega arith)
        ∙ get_drop (p + count) code.places _ q (omega arith)

    -- at each place outside the window
    pub fetch_outside : (q : ℕ) → IsOutside p count q → q ≢ p → slice_get places' (to q) ≡ slice_get code.places q
    fetch_outside q (inl h) ne = ap (slice_get places') (let e : to q ≡ q = omega arith in e) ∙ fetch_before q (omega arith)
    fetch_outside q (inr h) ne = fetch_after q h

    -- data that follows a place outside the window moves with it
    pub data_moved : (q k : ℕ) → IsOutside p count q → ((j : ℕ) → j ≤ k → is_word_place (slice_get code.places (q + j)) ≡ true) → slice_get places' (to q + k) ≡ slice_get code.places (q + k)
    data_moved q k (inl h) w =
        elim (cases_lt (q + k) p) [
          | inl l ↦ ap (slice_get places') (let e : to q + k ≡ q + k = omega arith in e) ∙ fetch_before (q + k) l
          | inr l ↦ absurd (not_both (slice_get code.places p) r.first (ap (λ n. is_word_place (slice_get code.places n)) (let e : p ≡ q + (p - q) = omega arith in e) ∙ w (p - q) (omega arith)))
        ]
    data_moved q k (inr h) w =
        let s = r.no_longer in let o = r.some in
        ap (slice_get places') (let e : to q + k ≡ to (q + k) = omega arith in e) ∙ fetch_after (q + k) (omega arith)

    -- the place of a name's label moves
    pub label_place_moved : (name : Name) (ls : List Label) → label_place name (map (move_label p (count - length is)) ls) ≡ option_map to (label_place name ls)
    label_place_moved name [] = refl
    label_place_moved name (l ∷ ls) =
        elim (bytes_eq name l.name) as (λ b. (if b then Some (to l.place) else label_place name (map (move_label p (count - length is)) ls)) ≡ option_map to (if b then Some l.place else label_place name ls)) [
          | true ↦ refl
          | false ↦ label_place_moved name ls
        ]

    label_outside : (name : Name) (ls : List Label) → ((k : ℕ) (l : Label) → slice_get ls k ≡ Some l → IsOutside p count l.place) → (q : ℕ) → label_place name ls ≡ Some q → IsOutside p count q
    label_outside name [] h q e = absurd (cc)
    label_outside name (l ∷ ls) h q e =
        elim (bytes_eq name l.name) as (λ b. (if b then Some l.place else label_place name ls) ≡ Some q → IsOutside p count q) [
          | true ↦ λ f. subst (IsOutside p count) (same_Some l.place q f) (h 0 l refl)
          | false ↦ λ f. label_outside name ls (λ k m g. h (suc k) m g) q f
        ] e

    pub name_outside : (name : Name) (q : ℕ) → label_place name code.labels ≡ Some q → IsOutside p count q
    name_outside name q e = label_outside name code.labels r.unlabelled q e

    -- an instruction that mentions a name is one of the old listing
    mention_back : (q : ℕ) (i : Instr) (m : Mention) → slice_get places' q ≡ Some (Op i (Some m)) → (k : ℕ) × (slice_get code.places k ≡ Some (Op i (Some m)))
    mention_back q i m e =
        elim (cases_lt q p) [
          | inl l ↦ (q, sym (fetch_before q l) ∙ e)
          | inr l ↦ elim (cases_lt q (p + length is)) [
            | inl k ↦ absurd (plain_none is (q - p) i m (sym (fetch_window (q - p) (omega arith)) ∙ ap (slice_get places') (let f : p + (q - p) ≡ q = omega arith in f) ∙ e))
            | inr k ↦ (let s = r.no_longer in let o = r.some in (q + (count - length is), sym (fetch_after (q + (count - length is)) (omega arith)) ∙ ap (slice_get places') (let f : to (q + (count - length is)) ≡ q = omega arith in f) ∙ e))
          ]
        ]

    pub literals_stay : HasLiterals code → HasLiterals (replaced code p count is)
    literals_stay f at i m e t q g j l =
        let was = mention_back at i m e in
        let from = option_back to (label_place m.name code.labels) q (sym (label_place_moved m.name code.labels) ∙ g) in
        let words : (n : ℕ) → n ≤ m.plus / 4 → is_word_place (slice_get code.places (from.0 + n)) ≡ true = λ n k. f was.0 i m was.1 t from.0 from.1 n k in
        ap (λ n. is_word_place (slice_get places' (n + j))) from.2 ∙ ap is_word_place (data_moved from.0 j (name_outside m.name from.0 from.1) (λ n k. words n (omega arith))) ∙ words j l

    -- a label is code afterwards exactly where it was before
    code_stays : (k : ℕ) (l : Label) → slice_get code.labels k ≡ Some l → is_code places' (move_label p (count - length is) l) ≡ is_code code.places l
    code_stays k l e =
        elim (is_code code.places l) as (λ b. is_code code.places l ≡ b → is_code places' (move_label p (count - length is) l) ≡ b) [
          | true ↦ λ t. r.labels_stay k l e t
          | false ↦ λ t.
              let ne : l.place ≢ p = λ same. absurd (let f : is_op_place (slice_get code.places l.place) ≡ true = ap (λ x. is_op_place (slice_get code.places x)) same ∙ r.first in cc) in
              ap is_op_place (fetch_outside l.place (r.unlabelled k l e) ne) ∙ t
        ] refl

    -- a code point with its place moved
    abbrev move_point : ℕ × ℕ → ℕ × ℕ
    move_point a = (a.0, to a.1)

    picked : (b b' : Bool) → b' ≡ b → (x : ℕ × ℕ) (xs ys : List (ℕ × ℕ)) → ys ≡ map move_point xs → (if b' then move_point x ∷ ys else ys) ≡ map move_point (if b then x ∷ xs else xs)
    picked true true e x xs ys h = ap (λ l. move_point x ∷ l) h
    picked true false e x xs ys h = absurd (cc)
    picked false true e x xs ys h = absurd (cc)
    picked false false e x xs ys h = h

    points_of_moved : (names : Naming) (ls : List Label) → ((k : ℕ) (l : Label) → slice_get ls k ≡ Some l → is_code places' (move_label p (count - length is) l) ≡ is_code code.places l) → points_of names places' (map (move_label p (count - length is)) ls) ≡ map move_point (points_of names code.places ls)
    points_of_moved names [] h = refl
    points_of_moved names (l ∷ ls) h =
        picked (is_code code.places l) _ (h 0 l refl) (names.word_of l.name, l.place) (points_of names code.places ls) _ (points_of_moved names ls (λ k m e. h (suc k) m e))

    abbrev front : List Place
    front = take p code.places

    abbrev window : List Place
    window = take count (drop p code.places)

    abbrev back : List Place
    back = drop (p + count) code.places

    split : code.places ≡ front ++ (window ++ back)
    split = take_drop p code.places ∙ ap (λ l. front ++ l) (take_drop count (drop p code.places) ∙ ap (λ l. window ++ l) (drop_drop p count (p + count) code.places refl))

    front_length : length front ≡ p
    front_length = take_all p code.places (omega (arith, r.within))

    window_length : length window ≡ count
    window_length = take_all count (drop p code.places) (omega (arith, length_drop p code.places, r.within))

    returns_split : (names : Naming) → returns_from names 0 0 code.places ≡ returns_from names 0 0 front ++ returns_from names (call_count front) (p + count) back
    returns_split names =
        let n = count_none window r.no_call in
        let fl = front_length in
        let wl = window_length in
        ap (returns_from names 0 0) split
        ∙ returns_append names 0 0 (call_count front) p front (window ++ back) (omega arith) (omega arith)
        ∙ ap (λ l. returns_from names 0 0 front ++ l) (returns_append names (call_count front) p (call_count front) (p + count) window back (omega arith) (omega arith) ∙ ap (λ l. l ++ returns_from names (call_count front) (p + count) back) (returns_none names _ _ window r.no_call))

    returns_split' : (names : Naming) → returns_from names 0 0 places' ≡ returns_from names 0 0 front ++ returns_from names (call_count front) (p + length is) back
    returns_split' names =
        let n = count_none (map plain is) r.no_new_call in
        let fl = front_length in
        let wl = length_map plain is in
        returns_append names 0 0 (call_count front) p front (map plain is ++ back) (omega arith) (omega arith)
        ∙ ap (λ l. returns_from names 0 0 front ++ l) (returns_append names (call_count front) p (call_count front) (p + length is) (map plain is) back (omega arith) (omega arith) ∙ ap (λ l. l ++ returns_from names (call_count front) (p + length is) back) (returns_none names _ _ (map plain is) r.no_new_call))

    returns_stay : (names : Naming) → returns_from names 0 0 places' ≡ map move_point (returns_from names 0 0 code.places)
    returns_stay names =
        let fl = front_length in
        let s = r.no_longer in let o = r.some in
        let a : returns_from names 0 0 front ≡ map move_point (returns_from names 0 0 front) = returns_moved names to 0 0 0 front (omega arith) (λ j l. omega arith) in
        let b : returns_from names (call_count front) (p + length is) back ≡ map move_point (returns_from names (call_count front) (p + count) back) = returns_moved names to (call_count front) (p + count) (p + length is) back (omega arith) (λ j l. omega arith) in
        returns_split' names
        ∙ ap (λ l. l ++ returns_from names (call_count front) (p + length is) back) a
        ∙ ap (λ l. map move_point (returns_from names 0 0 front) ++ l) b
        ∙ sym (map_append move_point (returns_from names 0 0 front) (returns_from names (call_count front) (p + count) back))
        ∙ ap (map move_point) (sym (returns_split names))

    -- the code points keep their words, at places that move
    pub points_moved : (names : Naming) → points names (replaced code p count is) ≡ map move_point (points names code)
    points_moved names =
        ap (λ l. l ++ returns_from names 0 0 places') (points_of_moved names code.labels code_stays)
        ∙ ap (λ l. map move_point (points_of names code.places code.labels) ++ l) (returns_stay names)
        ∙ sym (map_append move_point (points_of names code.places code.labels) (returns_from names 0 0 code.places))

    least_moved : (a : ℕ) (o : Option ℕ) → least_or (to a) (option_map to o) ≡ option_map to (least_or a o)
    least_moved a None = refl
    least_moved a (Some b) = ap Some (moved_min p (count - length is) a b)

    -- so the least place with a word moves
    pub point_moved : (word : ℕ) (ps : List (ℕ × ℕ)) → point_among word (map move_point ps) ≡ option_map to (point_among word ps)
    point_moved word [] = refl
    point_moved word (a ∷ ps) =
        elim (word == a.0) as (λ b. (if b then least_or (to a.1) (point_among word (map move_point ps)) else point_among word (map move_point ps)) ≡ option_map to (if b then least_or a.1 (point_among word ps) else point_among word ps)) [
          | true ↦ ap (least_or (to a.1)) (point_moved word ps) ∙ least_moved a.1 (point_among word ps)
          | false ↦ point_moved word ps
        ]

    -- where a word leads to moves
    pub point_at_moved : (names : Naming) (word : ℕ) → point_among word (points names (replaced code p count is)) ≡ option_map to (point_among word (points names code))
    point_at_moved names word = ap (point_among word) (points_moved names) ∙ point_moved word (points names code)

    chosen : (b c c' : Bool) → c' ≡ c → (x : ℕ) (o o' : Option ℕ) → o' ≡ option_map to o → (if b && c' then Some (to x) else o') ≡ option_map to (if b && c then Some x else o)
    chosen true true true e x o o' h = refl
    chosen true true false e x o o' h = absurd (cc)
    chosen true false true e x o o' h = absurd (cc)
    chosen true false false e x o o' h = h
    chosen false c c' e x o o' h = h

    place_among_moved : (name : Name) (ls : List Label) → ((k : ℕ) (l : Label) → slice_get ls k ≡ Some l → is_code places' (move_label p (count - length is) l) ≡ is_code code.places l) → place_among name places' (map (move_label p (count - length is)) ls) ≡ option_map to (place_among name code.places ls)
    place_among_moved name [] h = refl
    place_among_moved name (l ∷ ls) h =
        chosen (bytes_eq name l.name) _ _ (h 0 l refl) l.place _ _ (place_among_moved name ls (λ k m e. h (suc k) m e))

    -- where a name leads to moves
    pub place_moved : (name : Name) → place_of (replaced code p count is) name ≡ option_map to (place_of code name)
    place_moved name = place_among_moved name code.labels code_stays

    -- the number of a call outside the window
    count_before : (q : ℕ) → q ≤ p → call_count (take q places') ≡ call_count (take q code.places)
    count_before q h = let fl = front_length in ap call_count (take_front front _ q (omega arith) ∙ sym (take_front front (window ++ back) q (omega arith)) ∙ ap (take q) (sym split))

    count_after : (q : ℕ) → p + count ≤ q → call_count (take (to q) places') ≡ call_count (take q code.places)
    count_after q h =
        let fl = front_length in
        let wl = window_length in
        let il = length_map plain is in
        let s = r.no_longer in let o = r.some in
        let n = count_none (map plain is) r.no_new_call in
        let m = count_none window r.no_call in
        let a : call_count (take (to q) places') ≡ call_count front + call_count (take (to q - p - length is) back) =
        ap call_count (take_back front (map plain is ++ back) (to q) (to q - p) (omega arith)) ∙ count_append front _ ∙ ap (λ c. call_count front + c) (ap call_count (take_back (map plain is) back (to q - p) (to q - p - length is) (omega arith)) ∙ count_append (map plain is) _ ∙ ap (λ c. c + call_count (take (to q - p - length is) back)) n ∙ (let z : 0 + call_count (take (to q - p - length is) back) ≡ call_count (take (to q - p - length is) back) = omega arith in z)) in
        let b : call_count (take q (front ++ (window ++ back))) ≡ call_count front + call_count (take (q - p - count) back) =
        ap call_count (take_back front (window ++ back) q (q - p) (omega arith)) ∙ count_append front _ ∙ ap (λ c. call_count front + c) (ap call_count (take_back window back (q - p) (q - p - count) (omega arith)) ∙ count_append window _ ∙ ap (λ c. c + call_count (take (q - p - count) back)) m ∙ (let z : 0 + call_count (take (q - p - count) back) ≡ call_count (take (q - p - count) back) = omega arith in z)) in
        let same : to q - p - length is ≡ q - p - count = omega arith in
        a ∙ ap (λ c. call_count front + call_count (take c back)) same ∙ sym b ∙ ap (λ l. call_count (take q l)) (sym split)

    -- a place outside the window has as many calls before it
    pub count_stays : (q : ℕ) → IsOutside p count q → call_count (take (to q) places') ≡ call_count (take q code.places)
    count_stays q (inl h) = ap (λ x. call_count (take x places')) (let e : to q ≡ q = omega arith in e) ∙ count_before q h
    count_stays q (inr h) = count_after q h

    -- a code point of the new listing is one of the old, moved
    point_back : (ps : List (ℕ × ℕ)) (k w q : ℕ) → slice_get (map move_point ps) k ≡ Some (w, q) → (q' : ℕ) × (slice_get ps k ≡ Some (w, q')) × (q ≡ to q')
    point_back [] k w q e = absurd (cc)
    point_back (a ∷ ps) zero w q e =
        let f : move_point a ≡ (w, q) = ap (λ (o : Option (ℕ × ℕ)). unwrap_or o (0, 0)) e in
        (a.1, ap (λ (n : ℕ). Some (n, a.1)) (ap (λ (x : ℕ × ℕ). x.0) f), sym (ap (λ (x : ℕ × ℕ). x.1) f))
    point_back (a ∷ ps) (suc k) w q e = point_back ps k w q e

    -- what the new listing mentions, the old one did
    mentioned_before : (n : Name) → is_mentioned n places' ≡ true → is_mentioned n code.places ≡ true
    mentioned_before n h =
        ap (is_mentioned n) split ∙ mentioned_more n front window back (mentioned_less n front is back h)

    labels_kept : (n : Name) (ls : List Label) → has_label n (map (move_label p (count - length is)) ls) ≡ has_label n ls
    labels_kept n [] = refl
    labels_kept n (l ∷ ls) = ap (λ b. bytes_eq n l.name || b) (labels_kept n ls)

    -- a naming that fits the old listing fits the new one
    pub fits_stays : (names : Naming) → Fits names code → Fits names (replaced code p count is)
    fits_stays names f =
        record {
          words = f.words;
          return_words = f.return_words;
          low_even = f.low_even;
          high_even = f.high_even;
          are_code = λ k w q e. let b = point_back (points names code) k w q (ap (λ (l : List (ℕ × ℕ)). slice_get l k) (sym (points_moved names)) ∙ e) in f.are_code k w b.0 b.1;
          distinct = λ j k v w q s e e' ne.
              let b = point_back (points names code) j v q (ap (λ (l : List (ℕ × ℕ)). slice_get l j) (sym (points_moved names)) ∙ e) in
              let b' = point_back (points names code) k w s (ap (λ (l : List (ℕ × ℕ)). slice_get l k) (sym (points_moved names)) ∙ e') in
              f.distinct j k v w b.0 b'.0 b.1 b'.1 (λ same. ne (b.2 ∙ ap to same ∙ sym b'.2));
          outside = λ n h k. f.outside n (mentioned_before n h) (sym (labels_kept n code.labels) ∙ k);
        }

    -- no return point lies within the window
    pub return_outside : (q : ℕ) → one_of q (return_places 0 code.places) ≡ true → IsOutside p count q
    return_outside q h =
        let fl = front_length in
        let wl = window_length in
        let e : return_places 0 code.places ≡ return_places 0 front ++ return_places (p + count) back =
        ap (return_places 0) split
        ∙ places_append 0 p front (window ++ back) (omega arith)
        ∙ ap (λ l. return_places 0 front ++ l) (places_append p (p + count) window back (omega arith) ∙ ap (λ l. l ++ return_places (p + count) back) (places_none p window r.no_call)) in
        elim (one_of_append q (return_places 0 front) (return_places (p + count) back) (ap (one_of q) (sym e) ∙ h)) [
          | inl a ↦ inl (let w = return_within front 0 q a in omega (arith, w.1))
          | inr b ↦ inr (let w = return_within back (p + count) q b in omega (arith, w.0))
        ]
