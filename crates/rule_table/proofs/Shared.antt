-- Lemmas that several crates above this one use.
use Rattle.rule_table.specs.Canonical.{has, numbers_of}
use Rattle.std.proofs.Common.{List, Some, [], ap, eq-eqb, refl, slice_get, suc, true, zero, ℕ, ◌==◌, ◌∙◌, ◌∷◌, ◌≡◌}
use Rattle.std.proofs.lemmas.Bool.{or_left, or_right}
use Rattle.std.proofs.lemmas.Option.{same_Some}
use Rattle.thumb_instr.proofs.Registers.{same_number}
use Rattle.thumb_instr.specs.Window.{Low}

pub has_at : (xs : List ℕ) (i r : ℕ) → slice_get xs i ≡ Some r → has xs r ≡ true
has_at [] i r e = absurd (cc)
has_at (x ∷ xs) zero r e = or_left (x == r) (has xs r) (eq-eqb x r (same_Some _ _ e))
has_at (x ∷ xs) (suc i) r e = or_right (x == r) (has xs r) (has_at xs i r e)

pub same_numbers : (f g : List Low) → numbers_of f ≡ numbers_of g → f ≡ g
same_numbers [] [] e = refl
same_numbers [] (y ∷ g) e = absurd (cc)
same_numbers (x ∷ f) [] e = absurd (cc)
same_numbers (x ∷ f) (y ∷ g) e =
    let head : x.number ≡ y.number = cc in
    let tail : numbers_of f ≡ numbers_of g = cc in
    ap (λ z. z ∷ f) (same_number x y head) ∙ ap (λ zs. y ∷ zs) (same_numbers f g tail)
