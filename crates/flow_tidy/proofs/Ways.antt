-- Points and marks of places that move.
use Rattle.std.proofs.Common.{◌≡◌, ℕ, ◌==◌, ◌&&◌, ◌||◌, true, false, List, [], ◌∷◌, ◌++◌, map, Option, Some, None, refl, sym, ap, ◌∙◌, eq-eqb, if◌then◌else◌}
use Rattle.std.specs.Str.{bytes_eq}
use Rattle.std.proofs.lemmas.Option.{same_Some}
use Rattle.thumb_model.specs.Effect.{one_of}
use Rattle.thumb_model.specs.Listing.{Name, Mention, Place, Label, Code, is_code, place_among, place_of, label_places, return_places, IsPoint}
use Rattle.thumb_model.specs.Naming.{Naming, points}
use Rattle.thumb_model.specs.Steps.{aim_of}
use Rattle.thumb_model.proofs.Moved.{one_of_back}
use Rattle.thumb_model.proofs.Points.{point_places}

-- ---- points ----

-- any naming, for what depends on the listing alone
abbrev pub some_naming : Naming
some_naming = record { word_of = λ n. 0; return_word = λ k. 0; low = 0; high = 0 }

abbrev pub second : ℕ × ℕ → ℕ
second a = a.1

abbrev pub carried : (ℕ → ℕ) → ℕ × ℕ → ℕ × ℕ
carried to a = (a.0, to a.1)

pub moved_seconds : (to : ℕ → ℕ) (ps : List (ℕ × ℕ)) → map second (map (carried to) ps) ≡ map to (map second ps)
moved_seconds to [] = refl
moved_seconds to (a ∷ ps) = ap (λ l. to a.1 ∷ l) (moved_seconds to ps)

-- the points of a code whose points move
pub points_to : (code new : Code) (to : ℕ → ℕ) → ((names : Naming) → points names new ≡ map (carried to) (points names code)) → label_places new.places new.labels ++ return_places 0 new.places ≡ map to (label_places code.places code.labels ++ return_places 0 code.places)
points_to code new to e =
    sym (point_places some_naming new) ∙ ap (map second) (e some_naming) ∙ moved_seconds to (points some_naming code) ∙ ap (map to) (point_places some_naming code)

-- an item of the first list is one of both
pub one_of_first : (x : ℕ) (xs ys : List ℕ) → one_of x xs ≡ true → one_of x (xs ++ ys) ≡ true
one_of_first x [] ys h = absurd (cc)
one_of_first x (y ∷ xs) ys h =
    elim (x == y) as (λ b. (b || one_of x xs) ≡ true → (b || one_of x (xs ++ ys)) ≡ true) [ true ↦ λ f. refl | false ↦ λ f. one_of_first x xs ys f ] h

code_label_listed : (name : Name) (places : List Place) (ls : List Label) (q : ℕ) → place_among name places ls ≡ Some q → one_of q (label_places places ls) ≡ true
code_label_listed name places [] q e = absurd (cc)
code_label_listed name places (l ∷ ls) q e =
    elim (is_code places l) as (λ c. (if bytes_eq name l.name && c then Some l.place else place_among name places ls) ≡ Some q → one_of q (if c then l.place ∷ label_places places ls else label_places places ls) ≡ true) [
      | true ↦ λ f. elim (bytes_eq name l.name) as (λ b. (if b && true then Some l.place else place_among name places ls) ≡ Some q → one_of q (l.place ∷ label_places places ls) ≡ true) [
        | true ↦ λ g. ap (λ b. b || one_of q (label_places places ls)) (eq-eqb q l.place (sym (same_Some l.place q g)))
        | false ↦ λ g. one_of_back q (l.place ∷ []) (label_places places ls) (code_label_listed name places ls q g)
      ] f
      | false ↦ λ f. elim (bytes_eq name l.name) as (λ b. (if b && false then Some l.place else place_among name places ls) ≡ Some q → one_of q (label_places places ls) ≡ true) [
        | true ↦ λ g. code_label_listed name places ls q g
        | false ↦ λ g. code_label_listed name places ls q g
      ] f
    ] e

-- the place of a code label is a code point
pub label_is_point : (code : Code) (name : Name) (q : ℕ) → place_of code name ≡ Some q → IsPoint code q
label_is_point code name q e = one_of_first q (label_places code.places code.labels) (return_places 0 code.places) (code_label_listed name code.places code.labels q e)

pub aim_is_point : (code : Code) (mention : Option Mention) (q : ℕ) → aim_of code mention ≡ Some q → IsPoint code q
aim_is_point code None q e = absurd (cc)
aim_is_point code (Some m) q e = label_is_point code m.name q e
