-- Bits of words: what setting, clearing and searching them does to a set of places.
use Rattle.std.proofs.Common.{◌≡◌, ◌≢◌, ℕ, zero, suc, ◌+◌, ◌-◌, ◌*◌, ◌/◌, ◌%◌, ◌^◌, ◌<◌, ◌≤◌, ◌==◌, Bool, true, false, List, [], ◌∷◌, ◌++◌, length, replicate, refl, sym, ap, ◌∙◌, inl, inr, bit_and, bit_or, nat_lt, arith, eq-eqb}
use Rattle.std.specs.Prelude.{slice_set, slice_index}
use Rattle.std.specs.Int.{bit_at, bit_not, w64, leading_zeros}
use Rattle.std.proofs.lemmas.Bool.{cases_lt, cases_eq, cases_order, lt-ltb, le-ltb}
use Rattle.std.proofs.lemmas.List.{length-replicate, get_or-set_same, get_or-set_other, get_or-replicate, get_or_append_left, get_or_at, get_or_past, length-append}
use Rattle.std.proofs.lemmas.Nat.{div_below, mod_below, le-div, leading_top, one_shl, pow_pos, div-mul-add, mod-mul-add}
use Rattle.std.proofs.lemmas.Nat.Bits.{bit_at-zero, bit_at_ones, bit_at_ones_above, bit_at_above, bit_at_set_same, bit_at_set_other, bit_at_clear_same, bit_at_clear_other}
use Rattle.kept_places.specs.Members.{has}

-- the word of a place is among the words
pub word_within : (n p : ℕ) → p < n * 64 → p / 64 < n
word_within n p h = div_below p 64 n (omega arith) h

-- ---- a word is put ----

pub put_bits : (words : List ℕ) (p x : ℕ) (b : Bool) → p / 64 < length words → (bit_at x (p % 64) == 1) ≡ b → ((i : ℕ) → i < 64 → i ≢ p % 64 → bit_at x i ≡ bit_at (slice_index words (p / 64)) i) →
    (has (slice_set words (p / 64) x) p ≡ b) × ((q : ℕ) → q ≢ p → has (slice_set words (p / 64) x) q ≡ has words q)
put_bits words p x b h e o = (ap (λ w. bit_at w (p % 64) == 1) (get_or-set_same words (p / 64) x 0 h) ∙ e, others)
  where
    others : (q : ℕ) → q ≢ p → has (slice_set words (p / 64) x) q ≡ has words q
    others q d = elim (cases_eq (q / 64) (p / 64)) [
      | inl s ↦
          let apart : q % 64 ≢ p % 64 = λ t. d (omega arith) in
          let w : slice_index (slice_set words (p / 64) x) (q / 64) ≡ x = ap (slice_index (slice_set words (p / 64) x)) s ∙ get_or-set_same words (p / 64) x 0 h in
          ap (λ w. bit_at w (q % 64) == 1) w ∙ ap (λ n. n == 1) (o (q % 64) (mod_below q 64 (omega arith)) apart) ∙ ap (λ k. bit_at (slice_index words k) (q % 64) == 1) (sym s)
      | inr n ↦ ap (λ w. bit_at w (q % 64) == 1) (get_or-set_other words (p / 64) (q / 64) x 0 n)
    ]

pub bit_set : (words : List ℕ) (p w : ℕ) → p < length words * 64 → w ≡ slice_index words (p / 64) →
    (has (slice_set words (p / 64) (bit_or w (1 * 2 ^ (p % 64) % 2 ^ 64))) p ≡ true) × ((q : ℕ) → q ≢ p → has (slice_set words (p / 64) (bit_or w (1 * 2 ^ (p % 64) % 2 ^ 64))) q ≡ has words q)
bit_set words p w h e =
    let low : p % 64 < 64 = mod_below p 64 (omega arith) in
    put_bits words p (bit_or w (1 * 2 ^ (p % 64) % 2 ^ 64)) true (word_within (length words) p h) (eq-eqb _ 1 (bit_at_set_same w64 w (p % 64) low))
    (λ i l d. bit_at_set_other w64 w (p % 64) low i d ∙ ap (λ v. bit_at v i) e)

pub bit_cleared : (words : List ℕ) (p w : ℕ) → p < length words * 64 → w ≡ slice_index words (p / 64) →
    (has (slice_set words (p / 64) (bit_and w (bit_not w64 (1 * 2 ^ (p % 64) % 2 ^ 64)))) p ≡ false) × ((q : ℕ) → q ≢ p → has (slice_set words (p / 64) (bit_and w (bit_not w64 (1 * 2 ^ (p % 64) % 2 ^ 64)))) q ≡ has words q)
bit_cleared words p w h e =
    let low : p % 64 < 64 = mod_below p 64 (omega arith) in
    put_bits words p (bit_and w (bit_not w64 (1 * 2 ^ (p % 64) % 2 ^ 64))) false (word_within (length words) p h) (ap (λ n. n == 1) (bit_at_clear_same w64 w (p % 64) low))
    (λ i l d. bit_at_clear_other w64 w (p % 64) low i l d ∙ ap (λ v. bit_at v i) e)

-- ---- the highest bit ----

pub highest_is : (a : ℕ) → 0 < a → a < 2 ^ 64 → (63 - leading_zeros w64 a < 64) × (leading_zeros w64 a ≤ 63) × (bit_at a (63 - leading_zeros w64 a) ≡ 1) × ((i : ℕ) → 63 - leading_zeros w64 a < i → bit_at a i ≡ 0)
highest_is a h w = (omega (arith, top.1), omega (arith, top.1), ap (bit_at a) is ∙ here, λ i l. bit_at_above a (suc top.0) i top.3 (omega (arith, top.1, l)))
  where
    top : (j : ℕ) × (leading_zeros w64 a + suc j ≡ 64) × (2 ^ j ≤ a) × (a < 2 ^ suc j)
    top = leading_top 64 a h w

    is : 63 - leading_zeros w64 a ≡ top.0
    is = omega (arith, top.1)

    one : a / 2 ^ top.0 ≡ 1
    one =
        let low : 1 ≤ a / 2 ^ top.0 = le-div 1 a (2 ^ top.0) (omega (arith, pow_pos top.0)) (omega (arith, top.2)) in
        let high : a / 2 ^ top.0 < 2 = div_below a (2 ^ top.0) 2 (omega (arith, pow_pos top.0)) (omega (arith, top.3)) in
        omega arith

    here : bit_at a top.0 ≡ 1
    here = ap (λ n. n % 2) one

-- ---- words of 0 ----

pub none_in : (words : List ℕ) (p : ℕ) → slice_index words (p / 64) ≡ 0 → has words p ≡ false
none_in words p e = ap (λ w. bit_at w (p % 64) == 1) e ∙ ap (λ n. n == 1) (bit_at-zero (p % 64))

pub zero_in : (n k : ℕ) → slice_index (replicate n 0) k ≡ 0
zero_in zero k = refl
zero_in (suc n) zero = refl
zero_in (suc n) (suc k) = zero_in n k

pub none_set : (n : ℕ) (words : List ℕ) → words ≡ replicate n 0 → (p : ℕ) → has words p ≡ false
none_set n words e p = none_in words p (ap (λ (l : List ℕ). slice_index l (p / 64)) e ∙ zero_in n (p / 64))

-- no bit is set before a word, where none is before another and the words from there to it are 0
pub none_before : (words : List ℕ) (from to : ℕ) → ((p : ℕ) → p < from * 64 → has words p ≡ false) → ((k : ℕ) → from ≤ k → k < to → slice_index words k ≡ 0) → (p : ℕ) → p < to * 64 → has words p ≡ false
none_before words from to b z p h = elim (cases_lt (p / 64) from) [
  | inl l ↦ b p (omega arith)
  | inr l ↦ none_in words p (z (p / 64) l (omega arith))
]

-- nor after a word, likewise
pub none_behind : (words : List ℕ) (from to : ℕ) → ((p : ℕ) → to * 64 ≤ p → has words p ≡ false) → ((k : ℕ) → from ≤ k → k < to → slice_index words k ≡ 0) → (p : ℕ) → from * 64 ≤ p → has words p ≡ false
none_behind words from to b z p h = elim (cases_lt (p / 64) to) [
  | inl l ↦ none_in words p (z (p / 64) (omega arith) l)
  | inr l ↦ b p (omega arith)
]

-- ---- the least and the greatest place ----

-- a bit of a word is that of a place
pub of_word : (words : List ℕ) (w i : ℕ) → i < 64 → has words (w * 64 + i) ≡ (bit_at (slice_index words w) i == 1)
of_word words w i h =
    ap (λ k. bit_at (slice_index words k) ((w * 64 + i) % 64) == 1) (div-mul-add w 64 i h) ∙ ap (λ k. bit_at (slice_index words w) k == 1) (mod-mul-add w 64 i h)

pub least_in : (words : List ℕ) (w i : ℕ) → ((p : ℕ) → p < w * 64 → has words p ≡ false) → i < 64 → bit_at (slice_index words w) i ≡ 1 → ((j : ℕ) → j < i → bit_at (slice_index words w) j ≡ 0) →
    (has words (w * 64 + i) ≡ true) × ((p : ℕ) → p < w * 64 + i → has words p ≡ false)
least_in words w i b h e l = (of_word words w i h ∙ ap (λ n. n == 1) e, below)
  where
    below : (p : ℕ) → p < w * 64 + i → has words p ≡ false
    below p s = elim (cases_lt p (w * 64)) [
      | inl t ↦ b p t
      | inr t ↦ ap (λ k. bit_at (slice_index words k) (p % 64) == 1) (let k : p / 64 ≡ w = omega arith in k) ∙ ap (λ n. n == 1) (l (p % 64) (omega arith))
    ]

pub greatest_in : (words : List ℕ) (w i : ℕ) → ((p : ℕ) → (w + 1) * 64 ≤ p → has words p ≡ false) → i < 64 → bit_at (slice_index words w) i ≡ 1 → ((j : ℕ) → i < j → bit_at (slice_index words w) j ≡ 0) →
    (has words (w * 64 + i) ≡ true) × ((p : ℕ) → w * 64 + i < p → has words p ≡ false)
greatest_in words w i b h e l = (of_word words w i h ∙ ap (λ n. n == 1) e, above)
  where
    above : (p : ℕ) → w * 64 + i < p → has words p ≡ false
    above p s = elim (cases_lt p ((w + 1) * 64)) [
      | inl t ↦ ap (λ k. bit_at (slice_index words k) (p % 64) == 1) (let k : p / 64 ≡ w = omega arith in k) ∙ ap (λ n. n == 1) (l (p % 64) (omega arith))
      | inr t ↦ b p t
    ]

-- ---- all places ----

pub all_have : (count : ℕ) (words : List ℕ) → words ≡ replicate (count / 64) (2 ^ 64 - 1) ++ (1 * 2 ^ (count % 64) % 2 ^ 64 - 1) ∷ [] → (p : ℕ) → has words p ≡ nat_lt p count
all_have count words e p = elim (cases_order (p / 64) (count / 64)) [
  | inl s ↦
      let at : slice_index words (p / 64) ≡ 2 ^ (count % 64) - 1 = ap (λ (l : List ℕ). slice_index l (p / 64)) e ∙ get_or_at (replicate (count / 64) (2 ^ 64 - 1)) _ [] 0 (p / 64) (length-replicate (count / 64) (2 ^ 64 - 1) ∙ sym s) ∙ ap (λ n. n - 1) (one_shl (count % 64) 64 (mod_below count 64 (omega arith))) in
      ap (λ w. bit_at w (p % 64) == 1) at ∙ elim (cases_lt (p % 64) (count % 64)) [
        | inl l ↦ ap (λ n. n == 1) (bit_at_ones (count % 64) (p % 64) l) ∙ sym (lt-ltb p count (omega arith))
        | inr l ↦ ap (λ n. n == 1) (bit_at_ones_above (count % 64) (p % 64) l) ∙ sym (le-ltb p count (omega arith))
      ]
  | inr (inl s) ↦
      let at : slice_index words (p / 64) ≡ 2 ^ 64 - 1 = ap (λ (l : List ℕ). slice_index l (p / 64)) e ∙ get_or_append_left (replicate (count / 64) (2 ^ 64 - 1)) _ 0 (p / 64) (omega (arith, s, length-replicate (count / 64) (2 ^ 64 - 1))) ∙ get_or-replicate (count / 64) (p / 64) (2 ^ 64 - 1) 0 s in
      ap (λ w. bit_at w (p % 64) == 1) at ∙ ap (λ n. n == 1) (bit_at_ones 64 (p % 64) (mod_below p 64 (omega arith))) ∙ sym (lt-ltb p count (omega arith))
  | inr (inr s) ↦
      let at : slice_index words (p / 64) ≡ 0 = get_or_past words (p / 64) 0 (omega (arith, s, ap length e, length-append (replicate (count / 64) (2 ^ 64 - 1)) ((1 * 2 ^ (count % 64) % 2 ^ 64 - 1) ∷ []), length-replicate (count / 64) (2 ^ 64 - 1))) in
      none_in words p at ∙ sym (le-ltb p count (omega arith))
]
