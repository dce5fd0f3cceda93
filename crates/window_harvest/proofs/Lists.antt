-- Which elements lists have: those of appended and mapped lists, and facts of each element.
use Rattle.std.proofs.Common.{◌≡◌, ℕ, zero, suc, ◌+◌, ◌-◌, List, [], ◌∷◌, ◌++◌, length, map, Option, Some, refl, sym, ap, ◌∙◌, subst, ◌⊎◌, inl, inr, arith}
use Rattle.std.specs.Prelude.{slice_get, Contains, All}
use Rattle.std.specs.List.{flat_map}
use Rattle.std.specs.Option.{option_map}
use Rattle.std.proofs.lemmas.Option.{slice_get-map, slice_get_within, get_or_from_slice_get, slice_get_read}
use Rattle.seq_enum.proofs.Numbered.{get_back}
use Rattle.common_lemmas.proofs.Lists.{get_front}

-- an element stands in a list
abbrev pub In : {A : Type 0} → List A → A → Type 0
In xs x = (i : ℕ) × (slice_get xs i ≡ Some x)

pub contains_in : {A : Type 0} (xs : List A) (x : A) → Contains xs x → In xs x
contains_in xs x c = (c.0, slice_get_read xs (length xs) c.0 x refl c.1 (sym c.2))

pub in_contains : {A : Type 0} (xs : List A) (x : A) → In xs x → Contains xs x
in_contains xs x e = (e.0, slice_get_within xs e.0 x e.1, get_or_from_slice_get xs e.0 x x e.1)

pub in_left : {A : Type 0} (xs ys : List A) (x : A) → In xs x → In (xs ++ ys) x
in_left xs ys x e = (e.0, get_front xs ys e.0 (slice_get_within xs e.0 x e.1) ∙ e.1)

pub in_right : {A : Type 0} (xs ys : List A) (x : A) → In ys x → In (xs ++ ys) x
in_right xs ys x e = (length xs + e.0, get_back xs ys (length xs + e.0) (omega arith) ∙ ap (slice_get ys) (let f : length xs + e.0 - length xs ≡ e.0 = omega arith in f) ∙ e.1)

pub in_map : {A B : Type 0} (f : A → B) (xs : List A) (x : A) → In xs x → In (map f xs) (f x)
in_map f xs x e = (e.0, slice_get-map f xs e.0 ∙ ap (option_map f) e.1)

pub in_lists : {A B : Type 0} (f : A → List B) (xs : List A) (x : A) (y : B) → In xs x → In (f x) y → In (flat_map f xs) y
in_lists f [] x y e g = absurd (let h = e.1 in cc)
in_lists f (z ∷ xs) x y e g = go (λ i h. in_lists f xs x y (i, h) g) e.0 e.1
  where
    head : {A : Type 0} (a b : A) → (let o : Option A = Some a in o) ≡ Some b → b ≡ a
    head a b h = cc

    go : ((i : ℕ) → slice_get xs i ≡ Some x → In (flat_map f xs) y) → (i : ℕ) → slice_get (z ∷ xs) i ≡ Some x → In (f z ++ flat_map f xs) y
    go rest zero h = in_left (f z) (flat_map f xs) y (subst (λ a. In (f a) y) (head z x h) g)
    go rest (suc i) h = in_right (f z) (flat_map f xs) y (rest i h)

-- a fact of each element, one by one
abbrev pub Each : {A : Type 0} → (A → Type 0) → List A → Type 0
Each P [] = Unit {0}
Each P (x ∷ xs) = P x × Each P xs

pub all_each : {A : Type 0} (P : A → Type 0) (xs : List A) → All P xs → Each P xs
all_each P [] a = tt
all_each P (x ∷ xs) a = (a 0 x (omega arith), all_each P xs (λ k d h. a (suc k) d (omega arith)))

pub in_parts : {A : Type 0} (xs ys : List A) (x : A) → In (xs ++ ys) x → In xs x ⊎ In ys x
in_parts [] ys x e = inr e
in_parts (z ∷ xs) ys x e = go (λ i h. in_parts xs ys x (i, h)) e.0 e.1
  where
    later : In xs x ⊎ In ys x → In (z ∷ xs) x ⊎ In ys x
    later (inl f) = inl (suc f.0, f.1)
    later (inr f) = inr f

    go : ((i : ℕ) → slice_get (xs ++ ys) i ≡ Some x → In xs x ⊎ In ys x) → (i : ℕ) → slice_get (z ∷ (xs ++ ys)) i ≡ Some x → In (z ∷ xs) x ⊎ In ys x
    go rest zero h = inl (0, h)
    go rest (suc i) h = later (rest i h)

pub in_one : {A : Type 0} (y x : A) → In (y ∷ []) x → x ≡ y
in_one y x e = go e.0 e.1
  where
    go : (i : ℕ) → slice_get (y ∷ []) i ≡ Some x → x ≡ y
    go zero h = cc
    go (suc i) h = absurd (cc)
