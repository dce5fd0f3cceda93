-- A place that a word or a name leads to is a code point, and a label's place is a label's.
use Rattle.std.proofs.Common.{◌≡◌, Bool, not, ℕ, suc, ◌+◌, ◌==◌, ◌||◌, ◌&&◌, eq-eqb, eqb-true, true, false, List, [], ◌∷◌, ◌++◌, map, Option, Some, None, refl, sym, ap, ◌∙◌, subst, inl, inr, arith, min, if◌then◌else◌}
use Rattle.std.specs.Prelude.{slice_get}
use Rattle.std.specs.Str.{bytes_eq}
use Rattle.std.proofs.lemmas.Bool.{cases_lt}
use Rattle.thumb_model.specs.Effect.{one_of}
use Rattle.thumb_model.specs.Listing.{Name, Place, Label, Code, is_code, place_among, is_call, label_places, return_places, IsPoint}
use Rattle.thumb_model.specs.Naming.{Naming, is_odd, is_in_range, returns_from, points_of, points}
use Rattle.thumb_model.specs.States.{Goes, Leaves, Strays}
use Rattle.thumb_model.specs.Steps.{landing, point_among, least_or}
use Rattle.thumb_model.proofs.Moved.{one_of_back}

some_same : (a b : ℕ) → (let x : Option ℕ = Some a in x) ≡ Some b → b ≡ a
some_same a b e = cc

one_here : (x : ℕ) (xs : List ℕ) → one_of x (x ∷ xs) ≡ true
one_here x xs = ap (λ b. b || one_of x xs) (eq-eqb x x refl)

one_later : (x y : ℕ) (xs : List ℕ) → one_of x xs ≡ true → one_of x (y ∷ xs) ≡ true
one_later x y xs h = one_of_back x (y ∷ []) xs h

-- the place that a word leads to is the place of a code point
point_place : (word q : ℕ) (ps : List (ℕ × ℕ)) → point_among word ps ≡ Some q → one_of q (map (λ a. a.1) ps) ≡ true
point_place word q [] e = absurd (cc)
point_place word q (a ∷ ps) e =
    elim (word == a.0) as (λ b. (if b then least_or a.1 (point_among word ps) else point_among word ps) ≡ Some q → one_of q (a.1 ∷ map (λ a. a.1) ps) ≡ true) [
      | true ↦ λ f. least (point_among word ps) refl f (λ y g. point_place word y ps g)
      | false ↦ λ f. one_later q a.1 _ (point_place word q ps f)
    ] e
  where
    least : (o : Option ℕ) → point_among word ps ≡ o → least_or a.1 o ≡ Some q → ((y : ℕ) → point_among word ps ≡ Some y → one_of y (map (λ a. a.1) ps) ≡ true) → one_of q (a.1 ∷ map (λ a. a.1) ps) ≡ true
    least None g f rec = subst (λ x. one_of x (a.1 ∷ map (λ a. a.1) ps) ≡ true) (sym (some_same a.1 q f)) (one_here a.1 _)
    least (Some y) g f rec =
        let m : q ≡ min a.1 y = some_same _ _ f in
        elim (cases_lt a.1 y) [
          | inl lt ↦ (let n : a.1 ≡ q = omega arith in subst (λ x. one_of x (a.1 ∷ map (λ a. a.1) ps) ≡ true) n (one_here a.1 _))
          | inr ge ↦ (let n : y ≡ q = omega arith in one_later q a.1 _ (rec q (g ∙ ap Some n)))
        ]

label_places_are : (names : Naming) (places : List Place) (ls : List Label) → map (λ a. a.1) (points_of names places ls) ≡ label_places places ls
label_places_are names places [] = refl
label_places_are names places (l ∷ ls) =
    elim (is_code places l) as (λ b. map (λ a. a.1) (if b then (names.word_of l.name, l.place) ∷ points_of names places ls else points_of names places ls) ≡ (if b then l.place ∷ label_places places ls else label_places places ls)) [
      | true ↦ ap (λ x. l.place ∷ x) (label_places_are names places ls)
      | false ↦ label_places_are names places ls
    ]

return_places_are : (names : Naming) (k p : ℕ) (places : List Place) → map (λ a. a.1) (returns_from names k p places) ≡ return_places p places
return_places_are names k p [] = refl
return_places_are names k p (x ∷ xs) =
    elim (is_call x) as (λ b. map (λ a. a.1) (if b then (names.return_word k, p + 1) ∷ returns_from names (k + 1) (p + 1) xs else returns_from names k (p + 1) xs) ≡ (if b then (p + 1) ∷ return_places (p + 1) xs else return_places (p + 1) xs)) [
      | true ↦ ap (λ l. (p + 1) ∷ l) (return_places_are names (k + 1) (p + 1) xs)
      | false ↦ return_places_are names k (p + 1) xs
    ]

second_append : (xs ys : List (ℕ × ℕ)) → map (λ a. a.1) (xs ++ ys) ≡ map (λ a. a.1) xs ++ map (λ a. a.1) ys
second_append [] ys = refl
second_append (x ∷ xs) ys = ap (λ l. x.1 ∷ l) (second_append xs ys)

-- the places to which words lead are those of the code points
pub point_places : (names : Naming) (code : Code) → map (λ a. a.1) (points names code) ≡ label_places code.places code.labels ++ return_places 0 code.places
point_places names code =
    second_append (points_of names code.places code.labels) (returns_from names 0 0 code.places)
    ∙ ap (λ l. l ++ map (λ a. a.1) (returns_from names 0 0 code.places)) (label_places_are names code.places code.labels)
    ∙ ap (λ l. label_places code.places code.labels ++ l) (return_places_are names 0 0 code.places)

-- the place that a word leads to is a code point's
pub point_is : (names : Naming) (code : Code) (word q : ℕ) → point_among word (points names code) ≡ Some q → IsPoint code q
point_is names code word q e = ap (one_of q) (sym (point_places names code)) ∙ point_place word q (points names code) e

-- a place at which some label stands
abbrev pub IsLabelsPlace : List Label → ℕ → Type 0
IsLabelsPlace ls q = (k : ℕ) × (l : Label) × (slice_get ls k ≡ Some l) × (q ≡ l.place)

label_later : (l : Label) (ls : List Label) (q : ℕ) → IsLabelsPlace ls q → IsLabelsPlace (l ∷ ls) q
label_later l ls q f = (suc f.0, f.1, f.2, f.3)

-- the place that a name leads to is a label's
pub label_of_name : (name : Name) (places : List Place) (ls : List Label) (q : ℕ) → place_among name places ls ≡ Some q → IsLabelsPlace ls q
label_of_name name places [] q e = absurd (cc)
label_of_name name places (l ∷ ls) q e =
    elim ((bytes_eq name l.name) && is_code places l) as (λ b. (if b then Some l.place else place_among name places ls) ≡ Some q → IsLabelsPlace (l ∷ ls) q) [
      | true ↦ λ f. (0, l, refl, some_same _ _ f)
      | false ↦ λ f. label_later l ls q (label_of_name name places ls q f)
    ] e

-- a place among those of the code labels is a label's
pub label_of_place : (places : List Place) (ls : List Label) (q : ℕ) → one_of q (label_places places ls) ≡ true → IsLabelsPlace ls q
label_of_place places [] q e = absurd (cc)
label_of_place places (l ∷ ls) q e =
    elim (is_code places l) as (λ b. one_of q (if b then l.place ∷ label_places places ls else label_places places ls) ≡ true → IsLabelsPlace (l ∷ ls) q) [
      | true ↦ λ f. elim (q == l.place) as (λ b. (q == l.place) ≡ b → (b || one_of q (label_places places ls)) ≡ true → IsLabelsPlace (l ∷ ls) q) [
        | true ↦ λ t g. (0, l, refl, eqb-true q l.place t)
        | false ↦ λ t g. label_later l ls q (label_of_place places ls q g)
      ] refl f
      | false ↦ λ f. label_later l ls q (label_of_place places ls q f)
    ] e

-- a word that lands at a place is a code point's
pub landing_is : (names : Naming) (code : Code) (word q : ℕ) → landing names word (point_among word (points names code)) ≡ Goes q → IsPoint code q
landing_is names code word q e = go (point_among word (points names code)) refl e
  where
    outside : (b : Bool) → (if b then Leaves else Strays) ≡ Goes q → ⊥
    outside true f = absurd (cc)
    outside false f = absurd (cc)

    go : (o : Option ℕ) → point_among word (points names code) ≡ o → landing names word o ≡ Goes q → IsPoint code q
    go (Some p) s f = point_is names code word q (s ∙ ap Some (goes_same p q f))
      where
        goes_same : (a b : ℕ) → Goes a ≡ Goes b → a ≡ b
        goes_same a b g = cc
    go None s f = absurd (outside (is_odd word && not (is_in_range names word)) f)
