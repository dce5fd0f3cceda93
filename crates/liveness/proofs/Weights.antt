-- How many items sets have.
use Rattle.std.proofs.Common.{◌≡◌, ◌≢◌, ℕ, zero, suc, ◌+◌, ◌*◌, ◌<◌, ◌≤◌, ◌==◌, true, false, List, [], ◌∷◌, length, refl, sym, ap, ◌∙◌, subst, ◌⊎◌, inl, inr, arith}
use Rattle.std.specs.Prelude.{slice_get, slice_set}
use Rattle.std.specs.Int.{bit_at}
use Rattle.std.proofs.lemmas.Nat.Bits.{bit_at-lt, same_from_bits_below}
use Rattle.std.proofs.lemmas.Bool.{cases_lt, cases_eq}
use Rattle.thumb_instr.specs.declared.items.Items.{Items}
use Rattle.thumb_instr.specs.Items.{has}
use Rattle.liveness.specs.Live.{set_at}
use Rattle.liveness.specs.Passes.{weight_below, total}

-- at most one for each item
below_bound : (k w : ℕ) → weight_below k w ≤ k
unfolding weight_below
below_bound zero w = omega arith
below_bound (suc k) w = let h = below_bound k w in let b = bit_at-lt w k in omega arith

pub total_bound : (ss : List Items) → total ss ≤ 19 * length ss
unfolding total
total_bound [] = omega arith
total_bound (s ∷ ss) = let h = total_bound ss in let b = below_bound 19 s.bits in omega arith

-- has is bits
pub bit_of : (a x : ℕ) → (bit_at a x ≡ 0) × (has a x ≡ false) ⊎ (bit_at a x ≡ 1) × (has a x ≡ true)
bit_of a x = go (bit_at a x) (bit_at-lt a x)
  where
    go : (n : ℕ) → n < 2 → (n ≡ 0) × ((n == 1) ≡ false) ⊎ (n ≡ 1) × ((n == 1) ≡ true)
    go zero h = inl (refl, refl)
    go (suc zero) h = inr (refl, refl)
    go (suc (suc n)) h = absurd (omega arith)

bit_le : (a b x : ℕ) → (has a x ≡ true → has b x ≡ true) → bit_at a x ≤ bit_at b x
bit_le a b x h =
    elim (bit_of a x) [
      | inl p ↦ let e = p.0 in omega arith
      | inr p ↦ elim (bit_of b x) [
        | inl q ↦ absurd (let f = h p.1 in let g = q.1 in let t : true ≡ false = sym f ∙ g in cc)
        | inr q ↦ let e = p.0 in let f = q.0 in omega arith
      ]
    ]

-- more items, and no fewer
pub below_more : (k a b : ℕ) → ((x : ℕ) → has a x ≡ true → has b x ≡ true) → weight_below k a ≤ weight_below k b
unfolding weight_below
below_more zero a b h = omega arith
below_more (suc k) a b h = let r = below_more k a b h in let l = bit_le a b k (h k) in omega arith

below_same : (k a b : ℕ) → ((x : ℕ) → has a x ≡ true → has b x ≡ true) → weight_below k a ≡ weight_below k b → (x : ℕ) → x < k → bit_at a x ≡ bit_at b x
unfolding weight_below
below_same zero a b h e x l = absurd (omega arith)
below_same (suc k) a b h e x l =
    let r = below_more k a b h in
    let m = bit_le a b k (h k) in
    elim (cases_lt x k) [
      | inl t ↦ below_same k a b h (omega arith) x t
      | inr t ↦ let same : x ≡ k = omega arith in subst (λ y. bit_at a y ≡ bit_at b y) (sym same) (let f : bit_at a k ≡ bit_at b k = omega arith in f)
    ]

-- a larger set that differs has one item more
pub grows : (a b : ℕ) → a < 524288 → b < 524288 → ((x : ℕ) → has a x ≡ true → has b x ≡ true) → b ≢ a → weight_below 19 a + 1 ≤ weight_below 19 b
grows a b la lb h d =
    let r = below_more 19 a b h in
    elim (cases_eq (weight_below 19 a) (weight_below 19 b)) [
      | inl e ↦ absurd (d (sym (same_from_bits_below 19 a b la lb (below_same 19 a b h e))))
      | inr n ↦ omega (arith, n)
    ]

-- one set of a list is changed
pub total_set : (ss : List Items) (p : ℕ) (s : Items) → p < length ss → total (slice_set ss p s) + weight_below 19 (set_at ss p) ≡ total ss + weight_below 19 s.bits
unfolding total
total_set [] p s h = absurd (omega arith)
total_set (t ∷ ss) zero s h = omega arith
total_set (t ∷ ss) (suc p) s h = let r = total_set ss p s (omega arith) in omega arith

pub get_here : (ss : List Items) (p : ℕ) (s : Items) → p < length ss → set_at (slice_set ss p s) p ≡ s.bits
get_here [] p s h = absurd (omega arith)
get_here (t ∷ ss) zero s h = refl
get_here (t ∷ ss) (suc p) s h = get_here ss p s (omega arith)

pub get_else : (ss : List Items) (p q : ℕ) (s : Items) → q ≢ p → slice_get (slice_set ss p s) q ≡ slice_get ss q
get_else [] p q s d = refl
get_else (t ∷ ss) zero zero s d = absurd (d refl)
get_else (t ∷ ss) zero (suc q) s d = refl
get_else (t ∷ ss) (suc p) zero s d = refl
get_else (t ∷ ss) (suc p) (suc q) s d = get_else ss p q s (λ e. d (ap suc e))
