-- The elements of a list with one more in front.
use Rattle.std.proofs.Common.{◌≡◌, ℕ, suc, ◌<◌, ◌⊎◌, List, [], ◌∷◌, get_or, refl, sym, ◌∙◌, ap, inl, inr, arith}
use Rattle.std.specs.Prelude.{AllPairs, Contains}
use Rattle.std.proofs.lemmas.List.Elements.{Contains-append_right, Contains-append_cases, All-contains}
pub use Rattle.common_lemmas.proofs.Lists.{none_in}

module _ {X : Type 0} (x : X) (xs : List X) where
  pub head_in : Contains (x ∷ xs) x
  head_in = (0, omega arith, refl)

  pub tail_in : (y : X) → Contains xs y → Contains (x ∷ xs) y
  tail_in y c = Contains-append_right (x ∷ []) xs y c

  pub head_or_tail : (y : X) → Contains (x ∷ xs) y → (x ≡ y) ⊎ Contains xs y
  head_or_tail y c = elim (Contains-append_cases (x ∷ []) xs y c) [
    | inl p ↦ inl (let k : p.0 ≡ 0 = omega (arith, p.1) in sym (ap (λ (i : ℕ). get_or (x ∷ []) i y) k) ∙ p.2)
    | inr p ↦ inr p
  ]

  pub first_of_pairs : (R : X → X → Type 0) → AllPairs R (x ∷ xs) → (y : X) → Contains xs y → R x y
  first_of_pairs R h y c = All-contains (R x) xs y (λ k d b. h 0 (suc k) d (omega arith) (omega arith)) c

  pub rest_of_pairs : (R : X → X → Type 0) → AllPairs R (x ∷ xs) → AllPairs R xs
  rest_of_pairs R h = λ i j d l b. h (suc i) (suc j) d (omega arith) (omega arith)

-- strictly ordered lists with the same elements are equal
pub same_elements : {X : Type 0} (n : X → ℕ) (xs ys : List X) → AllPairs (λ x y. n x < n y) xs → AllPairs (λ x y. n x < n y) ys → ((z : X) → Contains xs z → Contains ys z) → ((z : X) → Contains ys z → Contains xs z) → xs ≡ ys
same_elements n [] [] o p f g = refl
same_elements n [] (y ∷ ys) o p f g = absurd (none_in y (g y (head_in y ys)))
same_elements n (x ∷ xs) [] o p f g = absurd (none_in x (f x (head_in x xs)))
same_elements {X} n (x ∷ xs) (y ∷ ys) o p f g =
    let same : x ≡ y = heads in
    let rest : xs ≡ ys = same_elements n xs ys (rest_of_pairs x xs (λ a b. n a < n b) o) (rest_of_pairs y ys (λ a b. n a < n b) p)
    (λ z c. elim (head_or_tail y ys z (f z (tail_in x xs z c))) [ inl e ↦ absurd (apart z x xs o c (same ∙ e)) | inr d ↦ d ])
    (λ z c. elim (head_or_tail x xs z (g z (tail_in y ys z c))) [ inl e ↦ absurd (apart z y ys p c (sym same ∙ e)) | inr d ↦ d ]) in
    cc
  where
    apart : (z w : X) (ws : List X) → AllPairs (λ x y. n x < n y) (w ∷ ws) → Contains ws z → w ≡ z → ⊥
    apart z w ws q c e = let l : n w < n z = first_of_pairs w ws (λ a b. n a < n b) q z c in let k : n w ≡ n z = ap n e in omega arith

    heads : x ≡ y
    heads = elim (head_or_tail y ys x (f x (head_in x xs))) [
      | inl e ↦ sym e
      | inr c ↦ elim (head_or_tail x xs y (g y (head_in y ys))) [
        | inl e ↦ e
        | inr d ↦
            let a : n y < n x = first_of_pairs y ys (λ a b. n a < n b) p x c in
            let b : n x < n y = first_of_pairs x xs (λ a b. n a < n b) o y d in
            absurd (omega arith)
      ]
    ]
