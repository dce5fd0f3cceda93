-- Binary search for a reference among ascending ones.
use Rattle.std.proofs.Common.{◌≡◌, ℕ, ◌<◌, ◌≤◌, List, length, get_or, inl, inr, sym, ◌∙◌, ap, arith, Some}
use Rattle.std.specs.Prelude.{AllPairs, Contains, slice_get}
use Rattle.std.proofs.lemmas.Bool.{cases_eq, cases_lt}
use Rattle.std.proofs.lemmas.List.{get_or_default}
use Rattle.std.proofs.lemmas.Option.{slice_get_within, slice_get-get_or, get_or_from_slice_get}

pub some_place : (xs : List ℕ) (x : ℕ) → Contains xs x → (k : ℕ) × (k < length xs) × (slice_get xs k ≡ Some x)
some_place xs x c = (c.0, c.1, slice_get-get_or xs c.0 x c.1 ∙ ap (λ (y : ℕ). Some y) c.2)

module _ (xs : List ℕ) (h : AllPairs (λ r s. r < s) xs) (k x m y : ℕ) (e : slice_get xs k ≡ Some x) (b : m < length xs) (f : y ≡ get_or xs m y) where
  at_k : get_or xs k 0 ≡ x
  at_k = get_or_default xs k 0 x (slice_get_within xs k x e) ∙ get_or_from_slice_get xs k x x e

  at_m : get_or xs m 0 ≡ y
  at_m = get_or_default xs m 0 y b ∙ sym f

  pub not_before : y ≤ x → m ≤ k
  not_before l = elim (cases_lt k m) [
    | inl c ↦ let q : get_or xs k 0 < get_or xs m 0 = h k m 0 c b in absurd (omega (arith, q, at_k, at_m))
    | inr c ↦ c
  ]

  pub not_after : x < y → k < m
  not_after l = elim (cases_lt k m) [
    | inl c ↦ c
    | inr c ↦ elim (cases_eq m k) [
      | inl d ↦ let q : get_or xs m 0 ≡ get_or xs k 0 = ap (λ (i : ℕ). get_or xs i 0) d in absurd (omega (arith, q, at_k, at_m))
      | inr d ↦ let q : get_or xs m 0 < get_or xs k 0 = h m k 0 (omega arith) (slice_get_within xs k x e) in absurd (omega (arith, q, at_k, at_m))
    ]
  ]
