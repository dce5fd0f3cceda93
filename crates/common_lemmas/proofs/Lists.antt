-- Lemmas on reading and writing an item of a list by its index, and on prefixes and suffixes.
use Rattle.std.proofs.Common.{List, Some, [], ap, arith, drop, get_or, length, map, refl, slice_get, suc, sym, take, true, zero, ℕ, ◌++◌, ◌+◌, ◌-◌, ◌<◌, ◌∙◌, ◌∷◌, ◌≡◌, ◌≢◌}
use Rattle.std.proofs.lemmas.Option.{same_Some, slice_get-get_or}
use Rattle.std.proofs.lemmas.Slice.Eq.{bytes_eq-Decides}
use Rattle.std.specs.Prelude.{Contains, slice_get, slice_set}
use Rattle.std.specs.Str.{bytes_eq}

pub get_set : {A : Type 0} (xs : List A) (p : ℕ) (x : A) → p < length xs → slice_get (slice_set xs p x) p ≡ Some x
get_set [] p x h = absurd (omega arith)
get_set (y ∷ xs) zero x h = refl
get_set (y ∷ xs) (suc p) x h = get_set xs p x (omega arith)

pub get_map : {A B : Type 0} (g : A → B) (xs : List A) (k : ℕ) (x : A) → slice_get xs k ≡ Some x → slice_get (map g xs) k ≡ Some (g x)
get_map g [] k x e = absurd (cc)
get_map g (y ∷ ys) zero x e = ap (λ z. Some (g z)) (same_Some y x e)
get_map g (y ∷ ys) (suc k) x e = get_map g ys k x e

pub get_front : {A : Type 0} (xs ys : List A) (i : ℕ) → i < length xs → slice_get (xs ++ ys) i ≡ slice_get xs i
get_front [] ys i h = absurd (omega arith)
get_front (x ∷ xs) ys zero h = refl
get_front (x ∷ xs) ys (suc i) h = get_front xs ys i (omega arith)

pub drop_at : {A : Type 0} (xs : List A) (p : ℕ) (x : A) → slice_get xs p ≡ Some x → drop p xs ≡ x ∷ drop (suc p) xs
drop_at [] p x h = absurd (cc)
drop_at (y ∷ ys) zero x h = ap (λ z. z ∷ ys) (same_Some y x h)
drop_at (y ∷ ys) (suc p) x h = drop_at ys p x h

pub none_in : {X : Type 0} (x : X) → Contains [] x → ⊥
none_in x c = omega (arith, c.1)

pub get_of_or : {X : Type 0} (xs : List X) (i : ℕ) (x : X) → i < length xs → x ≡ get_or xs i x → slice_get xs i ≡ Some x
get_of_or xs i x h e = slice_get-get_or xs i x h ∙ ap (λ y. Some y) (sym e)

pub same_bytes : (xs ys : List ℕ) → bytes_eq xs ys ≡ true → xs ≡ ys
same_bytes xs ys e = (bytes_eq-Decides xs ys).0 e

pub take_whole : {X : Type 0} (xs : List X) → take (length xs) xs ≡ xs
take_whole [] = refl
take_whole (x ∷ xs) = ap (λ zs. x ∷ zs) (take_whole xs)

pub get_unset : {A : Type 0} (xs : List A) (p q : ℕ) (x : A) → q ≢ p → slice_get (slice_set xs p x) q ≡ slice_get xs q
get_unset [] p q x d = refl
get_unset (y ∷ xs) zero zero x d = absurd (d refl)
get_unset (y ∷ xs) zero (suc q) x d = refl
get_unset (y ∷ xs) (suc p) zero x d = refl
get_unset (y ∷ xs) (suc p) (suc q) x d = get_unset xs p q x (λ e. d (ap suc e))

pub map_back : {A B : Type 0} (g : A → B) (xs : List A) (k : ℕ) (y : B) → slice_get (map g xs) k ≡ Some y → (x : A) × (slice_get xs k ≡ Some x) × (y ≡ g x)
map_back g [] k y e = absurd (cc)
map_back g (x ∷ xs) zero y e = (x, refl, sym (same_Some (g x) y e))
map_back g (x ∷ xs) (suc k) y e = map_back g xs k y e
