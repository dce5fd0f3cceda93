-- Sets of items as bits of a word: the lemmas behind the contracts of `Items` and `Mask`.
use Rattle.std.proofs.Common.{◌≡◌, ℕ, zero, suc, ◌+◌, ◌*◌, ◌<◌, ◌≤◌, ◌%◌, ◌^◌, ◌==◌, ◌&&◌, ◌||◌, not, Bool, true, false, min, max, refl, sym, ap, ◌∙◌, inl, inr, arith, eq-eqb, ne_eqb}
use Rattle.std.specs.Int.{bit_at}
use Rattle.std.specs.Prelude.{bit_or, bit_and, bit_xor}
use Rattle.std.proofs.lemmas.Nat.Bits.{bit_at-lt, bit_at_or, bit_at_and, bit_at_xor, bit_at-pow_same, bit_at-pow_other, bit_at_above}
use Rattle.std.proofs.lemmas.Nat.{and_le_l, or_lt}
use Rattle.std.proofs.lemmas.Bool.{cases_eq, cases_lt, and_parts}
use Rattle.std.proofs.lemmas.Bool.Decides.{nat_tests}
use Rattle.std.specs.Prelude.{if◌then◌else◌}
use Rattle.std.proofs.Math.Pow.{pow-lt}
use Rattle.thumb_instr.specs.Items.{has, is_in_masks}

or_test : (m n : ℕ) → m < 2 → n < 2 → (max m n == 1) ≡ ((m == 1) || (n == 1))
or_test (suc (suc m)) n h k = absurd (omega arith)
or_test m (suc (suc n)) h k = absurd (omega arith)
or_test m n h k = refl

minus_test : (m n : ℕ) → m < 2 → n < 2 → (min m ((m + n) % 2) == 1) ≡ ((m == 1) && not (n == 1))
minus_test (suc (suc m)) n h k = absurd (omega arith)
minus_test m (suc (suc n)) h k = absurd (omega arith)
minus_test m n h k = refl

pub has_union : (a b x : ℕ) → has (bit_or a b) x ≡ (has a x || has b x)
has_union a b x = ap (λ n. n == 1) (bit_at_or a b x) ∙ or_test (bit_at a x) (bit_at b x) (bit_at-lt a x) (bit_at-lt b x)

pub has_minus : (a b x : ℕ) → has (bit_and a (bit_xor a b)) x ≡ (has a x && not (has b x))
has_minus a b x =
    ap (λ n. n == 1) (bit_at_and a (bit_xor a b) x ∙ ap (min (bit_at a x)) (bit_at_xor a b x))
    ∙ minus_test (bit_at a x) (bit_at b x) (bit_at-lt a x) (bit_at-lt b x)

pub union_small : (a b : ℕ) → a < 524288 → b < 524288 → bit_or a b < 524288
union_small a b h k = or_lt 19 a b h k

pub minus_small : (a b : ℕ) → a < 524288 → bit_and a (bit_xor a b) < 524288
minus_small a b h = let least = and_le_l a (bit_xor a b) in omega (arith, least, h)

one_word : (i : ℕ) → i < 19 → 1 * 2 ^ i % 4294967296 ≡ 2 ^ i
one_word i h = let p : 2 ^ i < 524288 = pow-lt {i = i} {j = 19} h in omega arith

pub one_small : (i : ℕ) → i < 19 → 1 * 2 ^ i % 4294967296 < 524288
one_small i h = let p : 2 ^ i < 524288 = pow-lt {i = i} {j = 19} h in omega arith

pub has_one : (i x : ℕ) → i < 19 → has (1 * 2 ^ i % 4294967296) x ≡ (x == i)
has_one i x h =
    ap (λ w. has w x) (one_word i h) ∙ elim (cases_eq x i) [
      | inl e ↦ ap (λ y. has (2 ^ y) x) (sym e) ∙ ap (λ n. n == 1) (bit_at-pow_same x) ∙ sym (eq-eqb x i e)
      | inr d ↦ ap (λ n. n == 1) (bit_at-pow_other i x d) ∙ sym (ne_eqb x i d)
    ]

-- no item from 19 on is in a set
pub has_none : (a x : ℕ) → a < 524288 → 19 ≤ x → has a x ≡ false
has_none a x h k = ap (λ n. n == 1) (bit_at_above a 19 x h k)

-- ---- masks ----

-- two predicates agree below n
unfoldable agree : ℕ → (ℕ → Bool) → (ℕ → Bool) → Bool
agree zero p q = true
agree (suc n) p q = (if p n then q n else not (q n)) && agree n p q

same_test : (a b : Bool) → (if a then b else not b) ≡ true → a ≡ b
same_test true b e = sym e
same_test false true e = e
same_test false false e = refl

same_below : (n : ℕ) (p q : ℕ → Bool) → agree n p q ≡ true → (x : ℕ) → x < n → p x ≡ q x
unfolding agree
same_below zero p q e x h = absurd (omega arith)
same_below (suc n) p q e x h =
    let parts = and_parts (if p n then q n else not (q n)) (agree n p q) e in
    elim (cases_eq x n) [
      | inl d ↦ ap p d ∙ (same_test (p n) (q n) parts.0 ∙ ap q (sym d))
      | inr d ↦ same_below n p q parts.1 x (omega arith)
    ]

mask_agrees : agree 19 (has 491535) is_in_masks ≡ true
unfolding agree
mask_agrees = refl

above : (x : ℕ) → 19 ≤ x → is_in_masks x ≡ false
above x l = grind (arith, nat_tests)

-- the items that may be in masks, as a word
mask_bits : (x : ℕ) → has 491535 x ≡ is_in_masks x
mask_bits x = elim (cases_lt x 19) [
  | inl l ↦ same_below 19 (has 491535) is_in_masks mask_agrees x l
  | inr l ↦ has_none 491535 x (omega arith) l ∙ sym (above x l)
]

both_test : (m n : ℕ) → m < 2 → n < 2 → (min m n == 1) ≡ ((m == 1) && (n == 1))
both_test (suc (suc m)) n h k = absurd (omega arith)
both_test m (suc (suc n)) h k = absurd (omega arith)
both_test m n h k = refl

pub has_masked : (a x : ℕ) → has (bit_and a 491535) x ≡ (has a x && is_in_masks x)
has_masked a x =
    ap (λ n. n == 1) (bit_at_and a 491535 x) ∙ (both_test (bit_at a x) (bit_at 491535 x) (bit_at-lt a x) (bit_at-lt 491535 x) ∙ ap (λ b. has a x && b) (mask_bits x))

pub masked : (a x : ℕ) → has (bit_and a 491535) x ≡ true → is_in_masks x ≡ true
masked a x h = (and_parts (has a x) (is_in_masks x) (sym (has_masked a x) ∙ h)).1
