-- For the loop that writes a formula's text.
use Rattle.std.proofs.Common.{◌≡◌, ℕ, zero, suc, ◌+◌, List, [], ◌∷◌, Some, slice_get, drop, ap, ◌∙◌, arith}

-- what is left from a place on begins with what is there
pub drop_from : {A : Type 0} (xs : List A) (i : ℕ) (x : A) → slice_get xs i ≡ Some x → drop i xs ≡ x ∷ drop (i + 1) xs
drop_from [] i x e = cc
drop_from (y ∷ ys) zero x e = let same : y ≡ x = cc in ap (λ z. z ∷ ys) same
drop_from (y ∷ ys) (suc i) x e = drop_from ys i x e ∙ ap (λ k. x ∷ drop k (y ∷ ys)) (let next : suc (i + 1) ≡ suc i + 1 = omega arith in next)
