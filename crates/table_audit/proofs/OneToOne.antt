-- Numbers in order of first appearance: no two are the same, and a one-to-one map keeps their order.
use Rattle.std.proofs.Common.{◌≡◌, ℕ, zero, suc, ◌+◌, ◌<◌, ◌==◌, Bool, true, false, inl, inr, List, [], ◌∷◌, ◌++◌, Some, slice_get, get_or, map, length, cond, refl, sym, ◌∙◌, ap, subst, arith, eq-eqb}
use Rattle.std.specs.Option.{option_map}
use Rattle.std.proofs.lemmas.Bool.{true≢false, ne_eqb}
use Rattle.std.proofs.lemmas.Bool.Decides.{eqb_tells}
use Rattle.std.proofs.lemmas.List.{map-append}
use Rattle.std.proofs.lemmas.Option.{same_Some, slice_get-map, slice_get-get_or}
use Rattle.thumb_instr.specs.Window.{Low, AreBelow, item_under, number_or}
use Rattle.seq_enum.specs.Alphabet.{numbers_from}
use Rattle.rule_table.specs.Canonical.{has, with_first, firsts, numbers_of}
use Rattle.rule_table.proofs.Shared.{has_at}
use Rattle.rule_table.proofs.Distinct.{AreDistinct}

-- ---- no two are the same ----

again : (x : ℕ) (xs : List ℕ) (i r : ℕ) → has xs x ≡ false → x ≡ r → slice_get xs i ≡ Some r → ⊥
again x xs i r new same e = true≢false (sym (has_at xs i x (e ∙ ap Some (sym same))) ∙ new)

one_place : (xs : List ℕ) → AreDistinct xs → (i j r : ℕ) → slice_get xs i ≡ Some r → slice_get xs j ≡ Some r → i ≡ j
one_place [] d i j r e f = absurd (cc)
one_place (x ∷ xs) d zero zero r e f = refl
one_place (x ∷ xs) d zero (suc j) r e f = absurd (again x xs j r d.0 (same_Some _ _ e) f)
one_place (x ∷ xs) d (suc i) zero r e f = absurd (again x xs i r d.0 (same_Some _ _ f) e)
one_place (x ∷ xs) d (suc i) (suc j) r e f = omega (arith, one_place xs d.1 i j r e f)

-- ---- one-to-one maps ----

-- no two numbers below k are mapped to the same
abbrev pub IsOneToOneBelow : ℕ → (ℕ → ℕ) → Type 0
IsOneToOneBelow k f = (x y : ℕ) → x < k → y < k → f x ≡ f y → x ≡ y

below_push : (k : ℕ) (seen : List ℕ) (r : ℕ) → AreBelow k seen → r < k → AreBelow k (seen ++ r ∷ [])
below_push k [] r b low = (low, tt)
below_push k (x ∷ seen) r b low = (b.0, below_push k seen r b.1 low)

pub below_first : (k : ℕ) (seen : List ℕ) (r : ℕ) → AreBelow k seen → r < k → AreBelow k (with_first seen r)
below_first k seen r b low = elim (has seen r) as (λ c. AreBelow k (cond c seen (seen ++ r ∷ []))) [ true ↦ b | false ↦ below_push k seen r b low ]

pub firsts_below : (k : ℕ) (seen rs : List ℕ) → AreBelow k seen → AreBelow k rs → AreBelow k (firsts seen rs)
unfolding firsts
firsts_below k seen [] b h = b
firsts_below k seen (r ∷ rs) b h = firsts_below k (with_first seen r) rs (below_first k seen r b h.0) h.1

same_test : (f : ℕ → ℕ) (y r : ℕ) → (f y ≡ f r → y ≡ r) → (f y == f r) ≡ (y == r)
same_test f y r one = elim (eqb_tells y r) [
  | inl e ↦ eq-eqb (f y) (f r) (ap f e.1) ∙ sym e.0
  | inr e ↦ ne_eqb (f y) (f r) (λ s. e.1 (one s)) ∙ sym e.0
]

has_mapped : (k : ℕ) (f : ℕ → ℕ) → IsOneToOneBelow k f → (seen : List ℕ) (r : ℕ) → AreBelow k seen → r < k → has (map f seen) (f r) ≡ has seen r
has_mapped k f one [] r b low = refl
has_mapped k f one (y ∷ seen) r b low = rw (same_test f y r (one y r b.0 low), has_mapped k f one seen r b.1 low) refl

first_mapped : (k : ℕ) (f : ℕ → ℕ) → IsOneToOneBelow k f → (seen : List ℕ) (r : ℕ) → AreBelow k seen → r < k → with_first (map f seen) (f r) ≡ map f (with_first seen r)
first_mapped k f one seen r b low = ap (λ c. cond c (map f seen) (map f seen ++ f r ∷ [])) (has_mapped k f one seen r b low) ∙ by (has seen r)
  where
    by : (c : Bool) → cond c (map f seen) (map f seen ++ f r ∷ []) ≡ map f (cond c seen (seen ++ r ∷ []))
    by true = refl
    by false = sym (map-append f seen (r ∷ []))

pub firsts_mapped : (k : ℕ) (f : ℕ → ℕ) → IsOneToOneBelow k f → (seen rs : List ℕ) → AreBelow k seen → AreBelow k rs → firsts (map f seen) (map f rs) ≡ map f (firsts seen rs)
unfolding firsts
firsts_mapped k f one seen [] b h = refl
firsts_mapped k f one seen (r ∷ rs) b h =
    ap (λ s. firsts s (map f rs)) (first_mapped k f one seen r b h.0) ∙ firsts_mapped k f one (with_first seen r) rs (below_first k seen r b h.0) h.1

-- ---- a list of registers as a map ----

item_or : (registers : List Low) (x other : ℕ) → x < length registers → slice_get (numbers_of registers) x ≡ Some (number_or (slice_get registers x) other)
item_or [] x other low = absurd (omega arith)
item_or (r ∷ rs) zero other low = refl
item_or (r ∷ rs) (suc x) other low = item_or rs x other (omega (arith, low))

item_at : (registers : List Low) (x : ℕ) → x < length registers → slice_get (numbers_of registers) x ≡ Some (item_under registers x)
item_at registers x low = item_or registers x x low

pub one_to_one : (registers : List Low) → AreDistinct (numbers_of registers) → IsOneToOneBelow (length registers) (item_under registers)
one_to_one registers d x y low also e = one_place (numbers_of registers) d x y (item_under registers x) (item_at registers x low) (item_at registers y also ∙ ap Some (sym e))

-- ---- what is mapped to the registers is r0, r1 and so on ----

counts : (first : ℕ) (xs : List ℕ) → ((i : ℕ) → i < length xs → slice_get xs i ≡ Some (first + i)) → xs ≡ numbers_from first (length xs)
unfolding numbers_from
counts first [] at = refl
counts first (x ∷ xs) at =
    let e : first + 0 ≡ first = omega arith in
    let head : x ≡ first = same_Some _ _ (at 0 (omega arith)) ∙ e in
    let tail : xs ≡ numbers_from (suc first) (length xs) = counts (suc first) xs (λ i low.
    let next : first + suc i ≡ suc first + i = omega arith in
    at (suc i) (omega (arith, low)) ∙ ap Some next) in
    ap (λ h. h ∷ xs) head ∙ ap (λ t. first ∷ t) tail

below_at : (k : ℕ) (xs : List ℕ) (i a : ℕ) → AreBelow k xs → slice_get xs i ≡ Some a → a < k
below_at k [] i a b e = absurd (cc)
below_at k (x ∷ xs) zero a b e = subst (λ (n : ℕ). n < k) (same_Some _ _ e) b.0
below_at k (x ∷ xs) (suc i) a b e = below_at k xs i a b.1 e

pub counted_under : (registers : List Low) (xs : List ℕ) → AreDistinct (numbers_of registers) → AreBelow (length registers) xs → map (item_under registers) xs ≡ numbers_of registers
    → xs ≡ numbers_from 0 (length xs)
counted_under registers xs d b e = counts 0 xs at
  where
    at : (i : ℕ) → i < length xs → slice_get xs i ≡ Some (0 + i)
    at i low =
        let a = get_or xs i 0 in
        let here : slice_get xs i ≡ Some a = slice_get-get_or xs i 0 low in
        let number : slice_get (numbers_of registers) i ≡ Some (item_under registers a) =
        ap (λ ns. slice_get ns i) (sym e) ∙ slice_get-map (item_under registers) xs i ∙ ap (option_map (item_under registers)) here in
        let place : a ≡ i = one_place (numbers_of registers) d a i (item_under registers a) (item_at registers a (below_at (length registers) xs i a b here)) number in
        let none : i ≡ 0 + i = omega arith in
        here ∙ ap Some (place ∙ none)
