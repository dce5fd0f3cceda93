-- Pairs and triples by place.
use Rattle.std.proofs.Common.{◌≡◌, ℕ, ◌*◌, ◌/◌, ◌%◌, ◌<◌, List, [], ◌∷◌, ◌++◌, inl, inr, map, length, refl, sym, ◌∙◌, ap, arith, Option, Some, None, slice_get}
use Rattle.std.specs.List.{flat_map}
use Rattle.std.specs.Option.{option_map, option_and_then}
use Rattle.std.proofs.lemmas.Option.{slice_get-map, same_Some}
use Rattle.std.proofs.lemmas.List.{length-map, map-append}
use Rattle.std.proofs.lemmas.List.Concat.{flat_map_single}
use Rattle.std.proofs.Math.Path.{fun_ext}
use Rattle.seq_enum.specs.Alphabet.{IsPlace, grid2, grid3}
use Rattle.seq_enum.specs.Places.{digits2, digits3, paired}
use Rattle.seq_enum.proofs.Numbered.{get-flat_map-digits, length-flat_map-even, IsPlace-flat_map, IsPlace-map, zero_or_more, flat_map_from}

pub length-grid2 : {X Y A : Type 0} (make : X → Y → A) (xs : List X) (ys : List Y) → length (grid2 make xs ys) ≡ length xs * length ys
unfolding grid2 paired
length-grid2 make xs ys = length-flat_map-even (λ x. map (make x) ys) (length ys) xs (λ j x e. length-map ys (make x))

pub length-grid3 : {X Y Z A : Type 0} (make : X → Y → Z → A) (xs : List X) (ys : X → List Y) (zs : List Z) (m : ℕ)
    → ((j : ℕ) (x : X) → slice_get xs j ≡ Some x → length (ys x) ≡ m) → length (grid3 make xs ys zs) ≡ length xs * (m * length zs)
unfolding grid3 paired
length-grid3 make xs ys zs m each =
    length-flat_map-even (λ x. grid2 (make x) (ys x) zs) (m * length zs) xs
    (λ j x e. length-grid2 (make x) (ys x) zs ∙ ap (λ n. n * length zs) (each j x e))

factors : (a b i : ℕ) → i < a * b → (0 < a) × (0 < b)
factors a b i h = (first, second)
  where
    first : 0 < a
    first = elim (zero_or_more a) [ inl z ↦ absurd (omega (arith, ap (λ v. v * b) z)) | inr p ↦ p ]

    second : 0 < b
    second = elim (zero_or_more b) [ inl z ↦ absurd (omega (arith, ap (λ v. a * v) z)) | inr p ↦ p ]

pub grid3_some : {X Y Z A : Type 0} (make : X → Y → Z → A) (xs : List X) (ys : X → List Y) (zs : List Z) (m : ℕ)
    → ((j : ℕ) (x : X) → slice_get xs j ≡ Some x → length (ys x) ≡ m) → (i : ℕ) → i < length (grid3 make xs ys zs)
    → (0 < length xs) × (0 < m * length zs)
grid3_some make xs ys zs m each i h = factors (length xs) (m * length zs) i (omega (arith, length-grid3 make xs ys zs m each))

pub grid2_at : {X Y A : Type 0} (make : X → Y → A) (xs : List X) (ys : List Y) (i : ℕ) → 0 < length ys
    → slice_get (grid2 make xs ys) i ≡ digits2 make xs ys (length ys) i
unfolding grid2 paired
grid2_at make xs ys i pos =
    get-flat_map-digits (λ x. map (make x) ys) (length ys) pos xs (λ j x e. length-map ys (make x)) i
    ∙ simp slice_get-map

pub grid3_at : {X Y Z A : Type 0} (make : X → Y → Z → A) (xs : List X) (ys : X → List Y) (zs : List Z) (m : ℕ)
    → ((j : ℕ) (x : X) → slice_get xs j ≡ Some x → length (ys x) ≡ m) → (i : ℕ) → 0 < m * length zs
    → slice_get (grid3 make xs ys zs) i ≡ digits3 make xs ys zs m (length zs) i
unfolding grid3 paired
grid3_at make xs ys zs m each i pos =
    let n = m * length zs in
    let some : 0 < length zs = (factors m (length zs) 0 pos).1 in
    get-flat_map-digits (λ x. grid2 (make x) (ys x) zs) n pos xs
    (λ j x e. length-grid2 (make x) (ys x) zs ∙ ap (λ v. v * length zs) (each j x e)) i
    ∙ ap (λ f. option_and_then f (slice_get xs (i / n))) (fun_ext (λ x. grid2_at (make x) (ys x) zs (i % n) some))

-- a grid that is mapped is a grid
pub map-grid2 : {X Y A X' Y' B : Type 0} (f : A → B) (g : X → X') (h : Y → Y') (make : X → Y → A) (made : X' → Y' → B)
    → ((x : X) (y : Y) → f (make x y) ≡ made (g x) (h y)) → (xs : List X) (ys : List Y) → map f (grid2 make xs ys) ≡ grid2 made (map g xs) (map h ys)
unfolding grid2
map-grid2 f g h make made same [] ys = refl
map-grid2 {X} {Y} f g h make made same (x ∷ xs) ys =
    map-append f (map (make x) ys) (grid2 make xs ys) ∙ rw (map-grid2 f g h make made same xs ys) (ap (λ zs. zs ++ grid2 made (map g xs) (map h ys)) (row ys))
  where
    row : (ys : List Y) → map f (map (make x) ys) ≡ map (made (g x)) (map h ys)
    row [] = refl
    row (y ∷ ys) = rw (same x y, row ys) refl

pub map-grid3 : {X Y Z A X' Y' Z' B : Type 0} (f : A → B) (g : X → X') (h : Y → Y') (l : Z → Z') (make : X → Y → Z → A) (made : X' → Y' → Z' → B)
    → ((x : X) (y : Y) (z : Z) → f (make x y z) ≡ made (g x) (h y) (l z)) → (xs : List X) (ys : X → List Y) (ms : X' → List Y') (zs : List Z)
    → ((x : X) → map h (ys x) ≡ ms (g x)) → map f (grid3 make xs ys zs) ≡ grid3 made (map g xs) ms (map l zs)
unfolding grid3
map-grid3 f g h l make made same [] ys ms zs e = refl
map-grid3 f g h l make made same (x ∷ xs) ys ms zs e =
    map-append f (grid2 (make x) (ys x) zs) (grid3 make xs ys zs)
    ∙ rw (map-grid3 f g h l make made same xs ys ms zs e, map-grid2 f h l (make x) (made (g x)) (same x) (ys x) zs, e x) refl

-- a grid of triples with a single third part is one of pairs
pub grid3-single : {X Y Z A : Type 0} (make : X → Y → Z → A) (xs : List X) (ys : List Y) (z : Z) → grid3 make xs (λ x. ys) (z ∷ []) ≡ grid2 (λ x y. make x y z) xs ys
unfolding grid2 grid3
grid3-single make xs ys z = ap (λ f. flat_map f xs) (fun_ext (λ x. flat_map_single (λ y. make x y z) ys))

pub IsPlace-grid2 : {X Y A : Type 0} (make : X → Y → A) → ((x z : X) (y w : Y) → make z w ≡ make x y → (z ≡ x) × (w ≡ y))
    → (xs : List X) (ys : List Y) (x : X) (y : Y) (p q : Option ℕ) → IsPlace p xs x → IsPlace q ys y
    → IsPlace (paired (length ys) p q) (grid2 make xs ys) (make x y)
unfolding grid2 paired
IsPlace-grid2 {X} {Y} {A} make apart xs ys x y p q in_xs in_ys =
    IsPlace-flat_map (λ z. map (make z) ys) (length ys) xs (λ j z e. length-map ys (make z)) x (make x y) only p q in_xs
    (IsPlace-map (make x) ys y (λ w e. (apart x x y w e).1) q in_ys)
  where
    from : (z : X) (o : Option Y) → option_map (make z) o ≡ Some (make x y) → z ≡ x
    from z None h = cc
    from z (Some w) h = (apart x z y w (same_Some _ _ h)).0

    only : (j : ℕ) (z : X) → slice_get (map (make z) ys) j ≡ Some (make x y) → z ≡ x
    only j z e = from z (slice_get ys j) (sym (slice_get-map (make z) ys j) ∙ e)

-- an element of a grid is made of a pair
pub grid2_from : {X Y A P : Type 0} (make : X → Y → A) (xs : List X) (ys : List Y) (i : ℕ) (a : A) → slice_get (grid2 make xs ys) i ≡ Some a
    → ((x : X) (y : Y) → make x y ≡ a → P) → P
unfolding grid2
grid2_from {X} {Y} {A} {P} make xs ys i a e next =
    flat_map_from (λ x. map (make x) ys) xs i a e (λ x j at. from x (slice_get ys j) (sym (slice_get-map (make x) ys j) ∙ at))
  where
    from : (x : X) (o : Option Y) → option_map (make x) o ≡ Some a → P
    from x None h = absurd cc
    from x (Some y) h = next x y (same_Some _ _ h)

pub grid3_from : {X Y Z A P : Type 0} (make : X → Y → Z → A) (xs : List X) (ys : X → List Y) (zs : List Z) (i : ℕ) (a : A)
    → slice_get (grid3 make xs ys zs) i ≡ Some a → ((x : X) (y : Y) (z : Z) → make x y z ≡ a → P) → P
unfolding grid3
grid3_from make xs ys zs i a e next =
    flat_map_from (λ x. grid2 (make x) (ys x) zs) xs i a e (λ x j at. grid2_from (make x) (ys x) zs j a at (next x))

pub IsPlace-grid3 : {X Y Z A : Type 0} (make : X → Y → Z → A)
    → ((x x' : X) (y y' : Y) (z z' : Z) → make x' y' z' ≡ make x y z → (x' ≡ x) × (y' ≡ y) × (z' ≡ z))
    → (xs : List X) (ys : X → List Y) (zs : List Z) (m : ℕ) → ((j : ℕ) (x : X) → slice_get xs j ≡ Some x → length (ys x) ≡ m)
    → (x : X) (y : Y) (z : Z) (p q r : Option ℕ) → IsPlace p xs x → IsPlace q (ys x) y → IsPlace r zs z
    → IsPlace (paired (m * length zs) p (paired (length zs) q r)) (grid3 make xs ys zs) (make x y z)
unfolding grid3 paired
IsPlace-grid3 {X} {Y} {Z} {A} make apart xs ys zs m each x y z p q r in_xs in_ys in_zs =
    IsPlace-flat_map (λ v. grid2 (make v) (ys v) zs) (m * length zs) xs
    (λ j v e. length-grid2 (make v) (ys v) zs ∙ ap (λ n. n * length zs) (each j v e)) x (make x y z) only p (paired (length zs) q r) in_xs
    (IsPlace-grid2 (make x) (λ y₁ y₂ z₁ z₂ e. ((apart x x y₁ y₂ z₁ z₂ e).1, (apart x x y₁ y₂ z₁ z₂ e).2)) (ys x) zs y z q r in_ys in_zs)
  where
    only : (j : ℕ) (v : X) → slice_get (grid2 (make v) (ys v) zs) j ≡ Some (make x y z) → v ≡ x
    only j v e =
        grid2_from (make v) (ys v) zs j (make x y z) e (λ w t is. (apart x v y w z t is).0)
