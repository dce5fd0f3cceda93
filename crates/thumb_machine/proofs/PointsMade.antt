-- The loop invariants of `points`: the table so far and the code points to come give the least places.
use Rattle.std.proofs.Common.{◌≡◌, inl, inr, ℕ, ◌+◌, ◌∙◌, true, false, List, [], ◌∷◌, ◌++◌, Option, Some, None, length, drop, refl, sym, ap, arith, add-one, append_assoc, if◌then◌else◌}
use Rattle.std.specs.Prelude.{slice_get}
use Rattle.std.proofs.lemmas.Bool.{cases_Bool}
use Rattle.thumb_model.specs.Listing.{Label, ListingLine, Place, is_call, is_code, is_op_place, labels_at, labels_from, places_in}
use Rattle.thumb_model.specs.Naming.{Naming, points_of, returns_from}
use Rattle.thumb_model.specs.Steps.{point_among}
use Rattle.thumb_machine.specs.Making.{merged}
use Rattle.thumb_machine.specs.Walking.{name_points}
use Rattle.common_lemmas.proofs.Lists.{drop_at}

pub merged_none : (o : Option ℕ) → merged o None ≡ o
merged_none None = refl
merged_none (Some p) = refl

-- ---- return points ----

-- the return points of one place and of those after it
returns_one : (names : Naming) (k p : ℕ) (x : Place) (xs : List Place) → returns_from names k p (x ∷ []) ++ returns_from names (k + (if is_call x then 1 else 0)) (p + 1) xs ≡ returns_from names k p (x ∷ xs)
returns_one names k p x xs = elim (cases_Bool (is_call x)) [
  | inl e ↦ rw e refl
  | inr e ↦ rw e (ap (λ n. returns_from names n (p + 1) xs) (let z : k + 0 ≡ k = omega arith in z))
]

-- the return point of the next place comes before the others
pub returns_next : (w : ℕ) (names : Naming) (k n p : ℕ) (xs : List Place) (x : Place) (rest : List (ℕ × ℕ)) → slice_get xs p ≡ Some x → n ≡ k + (if is_call x then 1 else 0)
    → point_among w (returns_from names k p (x ∷ []) ++ (returns_from names n (p + 1) (drop (p + 1) xs) ++ rest)) ≡ point_among w (returns_from names k p (drop p xs) ++ rest)
returns_next w names k n p xs x rest at_p next =
    let tail : drop p xs ≡ x ∷ drop (p + 1) xs = rw add-one (drop_at xs p x at_p) in
    ap (point_among w) (
    sym (append_assoc (returns_from names k p (x ∷ [])) (returns_from names n (p + 1) (drop (p + 1) xs)) rest)
    ∙ ap (λ (ps : List (ℕ × ℕ)). ps ++ rest) (
    ap (λ m. returns_from names k p (x ∷ []) ++ returns_from names m (p + 1) (drop (p + 1) xs)) next ∙ returns_one names k p x (drop (p + 1) xs) ∙ ap (returns_from names k p) (sym tail)
    )
    )

-- ---- labels ----

-- labels at one place are all code, or none is
pub labels_code : (names : Naming) (places : List Place) (p : ℕ) (ns : List (List ℕ)) → is_op_place (slice_get places p) ≡ true → points_of names places (labels_at p ns) ≡ name_points names p ns
labels_code names places p [] h = refl
labels_code names places p (n ∷ ns) h = rw h (ap (λ (ps : List (ℕ × ℕ)). (names.word_of n, p) ∷ ps) (labels_code names places p ns h))

pub labels_data : (names : Naming) (places : List Place) (p : ℕ) (ns : List (List ℕ)) → is_op_place (slice_get places p) ≡ false → points_of names places (labels_at p ns) ≡ []
labels_data names places p [] h = refl
labels_data names places p (n ∷ ns) h = rw h (labels_data names places p ns h)

pub points_append : (names : Naming) (places : List Place) (xs ys : List Label) → points_of names places (xs ++ ys) ≡ points_of names places xs ++ points_of names places ys
points_append names places [] ys = refl
points_append names places (x ∷ xs) ys = elim (cases_Bool (is_code places x)) [
  | inl t ↦ rw t (ap (λ (ps : List (ℕ × ℕ)). (names.word_of x.name, x.place) ∷ ps) (points_append names places xs ys))
  | inr t ↦ rw t (points_append names places xs ys)
]

-- the labels of one line come before those of the others
pub labels_next : (w : ℕ) (names : Naming) (places : List Place) (p : ℕ) (l : ListingLine) (ls : List ListingLine) (rest : List (ℕ × ℕ))
    → point_among w (points_of names places (labels_at p l.names) ++ (points_of names places (labels_from (p + length (places_in l.statement)) ls) ++ rest)) ≡ point_among w (points_of names places (labels_from p (l ∷ ls)) ++ rest)
labels_next w names places p l ls rest =
    let here = labels_at p l.names in
    let behind = labels_from (p + length (places_in l.statement)) ls in
    ap (point_among w) (sym (append_assoc (points_of names places here) (points_of names places behind) rest) ∙ ap (λ (ps : List (ℕ × ℕ)). ps ++ rest) (sym (points_append names places here behind)))
