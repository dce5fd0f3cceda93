-- Elements of lists that are made of lists.
use Rattle.std.proofs.Common.{◌≡◌, inl, inr, Bool, true, List, [], ◌∷◌, Contains, filter, map, sym, subst}
use Rattle.std.specs.List.{flat_map}
use Rattle.std.proofs.lemmas.List.Elements.{Contains-append_left, Contains-append_right, Contains-append_cases}
use Rattle.std.proofs.lemmas.Bool.{cases_Bool}
pub use Rattle.lrat_check.proofs.Members.{none_in}
use Rattle.clause_arena.proofs.Lists.{Contains-first, Contains-later, Contains-cases}

-- ---- lists that are made of lists ----

pub from_flat : {X A : Type 0} (f : X → List A) (xs : List X) (a : A) → Contains (flat_map f xs) a → (x : X) × Contains xs x × Contains (f x) a
from_flat f [] a c = absurd (none_in a c)
from_flat f (x ∷ xs) a c = elim (Contains-append_cases (f x) (flat_map f xs) a c) [
  | inl here ↦ (x, Contains-first x xs, here)
  | inr later ↦ (let r = from_flat f xs a later in (r.0, Contains-later x xs r.0 r.1, r.2))
]

pub to_flat : {X A : Type 0} (f : X → List A) (xs : List X) (x : X) (a : A) → Contains xs x → Contains (f x) a → Contains (flat_map f xs) a
to_flat f [] x a c d = absurd (none_in x c)
to_flat f (y ∷ ys) x a c d = elim (Contains-cases y ys x c) [
  | inl same ↦ Contains-append_left (f y) (flat_map f ys) a (subst (λ z. Contains (f z) a) (sym same) d)
  | inr later ↦ Contains-append_right (f y) (flat_map f ys) a (to_flat f ys x a later d)
]

pub from_map : {X A : Type 0} (f : X → A) (xs : List X) (a : A) → Contains (map f xs) a → (x : X) × Contains xs x × (f x ≡ a)
from_map f [] a c = absurd (none_in a c)
from_map f (x ∷ xs) a c = elim (Contains-cases (f x) (map f xs) a c) [
  | inl same ↦ (x, Contains-first x xs, same)
  | inr later ↦ (let r = from_map f xs a later in (r.0, Contains-later x xs r.0 r.1, r.2))
]

pub to_map : {X A : Type 0} (f : X → A) (xs : List X) (x : X) → Contains xs x → Contains (map f xs) (f x)
to_map f [] x c = absurd (none_in x c)
to_map f (y ∷ ys) x c = elim (Contains-cases y ys x c) [
  | inl same ↦ subst (λ z. Contains (f y ∷ map f ys) (f z)) same (Contains-first (f y) (map f ys))
  | inr later ↦ Contains-later (f y) (map f ys) (f x) (to_map f ys x later)
]

pub from_filter : {X : Type 0} (p : X → Bool) (xs : List X) (x : X) → Contains (filter p xs) x → Contains xs x × (p x ≡ true)
from_filter p [] x c = absurd (none_in x c)
from_filter p (y ∷ ys) x c = elim (cases_Bool (p y)) [
  | inl does ↦ elim (Contains-cases y (filter p ys) x (rw does at c)) [
    | inl same ↦ (subst (λ z. Contains (y ∷ ys) z) same (Contains-first y ys), subst (λ z. p z ≡ true) same does)
    | inr later ↦ (let r = from_filter p ys x later in (Contains-later y ys x r.0, r.1))
  ]
  | inr not_so ↦ (let r = from_filter p ys x (rw not_so at c) in (Contains-later y ys x r.0, r.1))
]

pub to_filter : {X : Type 0} (p : X → Bool) (xs : List X) (x : X) → Contains xs x → p x ≡ true → Contains (filter p xs) x
to_filter p [] x c h = absurd (none_in x c)
to_filter p (y ∷ ys) x c h = elim (Contains-cases y ys x c) [
  | inl same ↦ rw (subst (λ z. p z ≡ true) (sym same) h) (subst (λ z. Contains (y ∷ filter p ys) z) same (Contains-first y (filter p ys)))
  | inr later ↦ elim (cases_Bool (p y)) [
    | inl does ↦ rw does (Contains-later y (filter p ys) x (to_filter p ys x later h))
    | inr not_so ↦ rw not_so (to_filter p ys x later h)
  ]
]
