-- Two shifts of one kind, one after the other, are one shift by the sum of their amounts.
use Rattle.std.proofs.Common.{◌≡◌, ℕ, zero, suc, ◌+◌, ◌-◌, ◌*◌, ◌/◌, ◌%◌, ◌^◌, ◌<◌, ◌≤◌, Bool, eqb, refl, sym, ap, ◌∙◌, ⊎_elim, subst, arith}
use Rattle.std.proofs.lemmas.Bool.{cond-false, ne_eqb, cases_eq, cases_lt}
use Rattle.std.proofs.lemmas.Nat.{pow-add, pow_pos, shr-shr, shr_below, mod_below, mul-mod_first, mod-pow-add}
use Rattle.std.proofs.Math.Nat.{add-mul-div_right, div-eq_of_lt, div-eq_of_lt-le, mul-le-mul_right}
use Rattle.std.specs.Int.{bit_at}
use Rattle.word_bits.specs.Word.{extended, shifted, last_out, shift_of}
use Rattle.word_bits.specs.declared.Shift.{Shift}
use Rattle.word_bits.specs.declared.Shift.TheVariants.{Lsl, Lsr, Asr, Ror}
use Rattle.word_bits.proofs.Words.{top, halves, mod_moved}

-- ---- LSL

lsl_value : (x i j : ℕ) → shifted Lsl (shifted Lsl x i) j ≡ shifted Lsl x (i + j)
lsl_value x i j = mul-mod_first (x * 2 ^ i) (2 ^ j) (2 ^ 32) ∙ ap (λ a. a % 2 ^ 32) (rw (pow-add 2 i j) (omega arith))

-- the bits above the low word don't affect the bit that is moved out
word_above : (q r j : ℕ) → 0 < j → bit_at (r * 2 ^ j) 32 ≡ bit_at ((q * 2 ^ 32 + r) * 2 ^ j) 32
word_above q r j h = rw (halves j h) (omega arith)

lsl_out_again : (x i j : ℕ) → 0 < j → last_out Lsl (shifted Lsl x i) j ≡ last_out Lsl x (i + j)
lsl_out_again x i j h =
    let z : ℕ = x * 2 ^ i in
    let parts : z / 2 ^ 32 * 2 ^ 32 + z % 2 ^ 32 ≡ z = omega arith in
    word_above (z / 2 ^ 32) (z % 2 ^ 32) j h ∙ ap (λ a. bit_at (a * 2 ^ j) 32) parts ∙ ap (λ a. bit_at a 32) (rw (pow-add 2 i j) (omega arith))

-- ---- LSR

-- after a shift right by i, bit j - 1 is what was bit i + j - 1
bit_below : (x i j : ℕ) → 0 < j → bit_at (x / 2 ^ i) (j - 1) ≡ bit_at x (i + j - 1)
bit_below x i j h = let e : i + (j - 1) ≡ i + j - 1 = omega arith in ap (λ a. a % 2) (shr-shr x i (j - 1)) ∙ ap (λ k. bit_at x k) e

-- ---- ASR

-- the highest bit stays
top_stays : (x i : ℕ) → x < 2 ^ 32 → bit_at (shifted Asr x i) 31 ≡ bit_at x 31
top_stays x i h =
    let wide : 2 ^ (32 + i) ≡ 2 ^ 32 * 2 ^ i = pow-add 2 32 i in
    let half : 2 ^ (i + 31) ≡ 2 ^ i * 2 ^ 31 = pow-add 2 i 31 in
    let some : 0 < 2 ^ i = pow_pos i in
    ap (λ a. a % 2) (shr-shr (extended x i) i 31)
    ∙ ⊎_elim
    (λ (z : (x / 2 ^ 31 ≡ 0) × (x < 2 ^ 31)).
    let same : extended x i ≡ x = rw z.0 (omega arith) in
    let none : x / 2 ^ (i + 31) ≡ 0 = div-eq_of_lt (omega arith) in
    let bit : bit_at x 31 ≡ 0 = omega arith in
    rw (same, none, bit) refl)
    (λ (z : (x / 2 ^ 31 ≡ 1) × (2 ^ 31 ≤ x)).
    let filled : extended x i ≡ x + (2 ^ 32 * 2 ^ i - 2 ^ 32) = rw (z.0, wide) (omega arith) in
    let one : extended x i / 2 ^ (i + 31) ≡ 1 = rw filled (div-eq_of_lt-le (2 ^ (i + 31)) (omega arith) (omega arith)) in
    let bit : bit_at x 31 ≡ 1 = omega arith in
    rw (one, bit) refl)
    (top x h)

-- the copies of the highest bit of two extensions, as those of one
more_copies : (x b w p q : ℕ) → w ≤ w * p → w ≤ w * q → x + b * (w * p * q - w) ≡ (x + b * (w * p - w)) + b * (w * q - w) * p
more_copies x b w p q h k =
    let c : ℕ = w * p - w in
    let d : ℕ = w * q - w in
    let first : c + w ≡ w * p = omega arith in
    let second : d + w ≡ w * q = omega arith in
    let both : (d + w) * p ≡ w * q * p = ap (λ v. v * p) second in
    let whole : w * p * q - w ≡ d * p + c = omega (arith, first, both) in
    rw whole (omega arith)

-- an arithmetic shift followed by an extension, as one extension
extended_again : (x i j : ℕ) → x < 2 ^ 32 → extended (shifted Asr x i) j ≡ extended x (i + j) / 2 ^ i
extended_again x i j h =
    let b : ℕ = bit_at x 31 in
    let near : 2 ^ (32 + j) ≡ 2 ^ 32 * 2 ^ j = pow-add 2 32 j in
    let far : 2 ^ (32 + (i + j)) ≡ 2 ^ 32 * 2 ^ i * 2 ^ j = pow-add 2 32 (i + j) ∙ rw (pow-add 2 i j) (omega arith) in
    let first : 2 ^ (32 + i) ≡ 2 ^ 32 * 2 ^ i = pow-add 2 32 i in
    let some_i : 0 < 2 ^ i = pow_pos i in
    let some_j : 0 < 2 ^ j = pow_pos j in
    let copies : extended x (i + j) ≡ extended x i + b * (2 ^ 32 * 2 ^ j - 2 ^ 32) * 2 ^ i = rw (far, first) (more_copies x b (2 ^ 32) (2 ^ i) (2 ^ j) (omega arith) (omega arith)) in
    ap (λ t. shifted Asr x i + t * (2 ^ (32 + j) - 2 ^ 32)) (top_stays x i h)
    ∙ ap (λ w. shifted Asr x i + b * (w - 2 ^ 32)) near
    ∙ sym (add-mul-div_right (extended x i) (b * (2 ^ 32 * 2 ^ j - 2 ^ 32)) (pow_pos i))
    ∙ ap (λ e. e / 2 ^ i) (sym copies)

asr_value : (x i j : ℕ) → x < 2 ^ 32 → shifted Asr (shifted Asr x i) j ≡ shifted Asr x (i + j)
asr_value x i j h = ap (λ e. e / 2 ^ j) (extended_again x i j h) ∙ shr-shr (extended x (i + j)) i j

asr_out_again : (x i j : ℕ) → x < 2 ^ 32 → 0 < j → last_out Asr (shifted Asr x i) j ≡ last_out Asr x (i + j)
asr_out_again x i j h k = ap (λ e. bit_at e (j - 1)) (extended_again x i j h) ∙ bit_below (extended x (i + j)) i j k

-- ---- ROR

-- a rotation moves the low bits above the others
rotated : (x n : ℕ) → shifted Ror x n ≡ x / 2 ^ (n % 32) + x % 2 ^ (n % 32) * 2 ^ (32 - n % 32)
rotated x n = ap (λ a. x / 2 ^ (n % 32) + a) (mod_moved x (n % 32) 32 (omega arith))

-- one place more: t and p are the powers that make up 2 ^ 31
turned : (h l t p : ℕ) → t * p ≡ 2 ^ 31 → (h + l * (2 * p)) / 2 + (h + l * (2 * p)) % 2 * 2 ^ 31 ≡ h / 2 + (h % 2 * t + l) * p
turned h l t p e =
    let low : (h + l * (2 * p)) / 2 ≡ h / 2 + l * p = omega arith in
    let bit : (h + l * (2 * p)) % 2 ≡ h % 2 = omega arith in
    let b : ℕ = h % 2 in
    let moved : b * (t * p) ≡ b * 2 ^ 31 = ap (λ v. b * v) e in
    rw (low, bit) (omega (arith, moved))

rotated_once : (x n : ℕ) → x < 2 ^ 32 → shifted Ror (shifted Ror x n) 1 ≡ shifted Ror x (n + 1)
rotated_once x n h =
    let k : ℕ = n % 32 in
    let y : ℕ = x / 2 ^ k + x % 2 ^ k * 2 ^ (32 - k) in
    ap (λ v. shifted Ror v 1) (rotated x n) ∙ rotated y 1
    ∙ ⊎_elim
    (λ (z : k < 31).
    let next : (n + 1) % 32 ≡ k + 1 = omega arith in
    let half : 2 ^ (32 - k) ≡ 2 * 2 ^ (31 - k) = halves (32 - k) (omega arith) ∙ ap (λ m. 2 * 2 ^ m) (let e : 32 - k - 1 ≡ 31 - k = omega arith in e) in
    let high : x / 2 ^ (k + 1) ≡ x / 2 ^ k / 2 = sym (shr-shr x k 1) in
    let low : x % 2 ^ (k + 1) ≡ x / 2 ^ k % 2 * 2 ^ k + x % 2 ^ k = ap (λ m. x % 2 ^ m) (let e : k + 1 ≡ 1 + k = omega arith in e) ∙ mod-pow-add x 1 k in
    let left : 32 - (k + 1) ≡ 31 - k = omega arith in
    let power : 2 ^ k * 2 ^ (31 - k) ≡ 2 ^ 31 = sym (pow-add 2 k (31 - k)) ∙ ap (λ m. 2 ^ m) (let e : k + (31 - k) ≡ 31 = omega arith in e) in
    ap (λ p. (x / 2 ^ k + x % 2 ^ k * p) / 2 + (x / 2 ^ k + x % 2 ^ k * p) % 2 * 2 ^ 31) half
    ∙ turned (x / 2 ^ k) (x % 2 ^ k) (2 ^ k) (2 ^ (31 - k)) power
    ∙ sym (rotated x (n + 1) ∙ rw (next, left, high, low) refl))
    (λ (z : 31 ≤ k).
    let last : k ≡ 31 = omega arith in
    let next : (n + 1) % 32 ≡ 0 = omega arith in
    let whole : (x / 2 ^ 31 + x % 2 ^ 31 * 2) / 2 + (x / 2 ^ 31 + x % 2 ^ 31 * 2) % 2 * 2 ^ 31 ≡ x = omega arith in
    let same : x / 2 ^ 0 + x % 2 ^ 0 * 2 ^ 32 ≡ x = omega arith in
    ap (λ m. (x / 2 ^ m + x % 2 ^ m * 2 ^ (32 - m)) / 2 + (x / 2 ^ m + x % 2 ^ m * 2 ^ (32 - m)) % 2 * 2 ^ 31) last
    ∙ whole ∙ sym same ∙ sym (rotated x (n + 1) ∙ ap (λ m. x / 2 ^ m + x % 2 ^ m * 2 ^ (32 - m)) next))
    (cases_lt k 31)

-- no rotation
pub rotated-zero : (x : ℕ) → x < 2 ^ 32 → shifted Ror x 0 ≡ x
rotated-zero x h = omega arith

-- a rotated word is a word
pub rotated-lt : (x n : ℕ) → x < 2 ^ 32 → shifted Ror x n < 2 ^ 32
rotated-lt x n h =
    let k : ℕ = n % 32 in
    let power : 2 ^ k * 2 ^ (32 - k) ≡ 2 ^ 32 = sym (pow-add 2 k (32 - k)) ∙ ap (λ m. 2 ^ m) (let e : k + (32 - k) ≡ 32 = omega arith in e) in
    let wide : x < 2 ^ ((32 - k) + k) = let e : (32 - k) + k ≡ 32 = omega arith in rw e h in
    let high : x / 2 ^ k < 2 ^ (32 - k) = shr_below x (32 - k) k wide in
    let low : x % 2 ^ k < 2 ^ k = mod_below x (2 ^ k) (pow_pos k) in
    let part : (x % 2 ^ k + 1) * 2 ^ (32 - k) ≤ 2 ^ k * 2 ^ (32 - k) = mul-le-mul_right (2 ^ (32 - k)) (omega arith) in
    rw (rotated x n) (omega (arith, part, power, high))

pub ror_value : (x i j : ℕ) → x < 2 ^ 32 → shifted Ror (shifted Ror x i) j ≡ shifted Ror x (i + j)
ror_value x i zero h = rotated-zero (shifted Ror x i) (rotated-lt x i h) ∙ ap (λ n. shifted Ror x n) (let e : i ≡ i + 0 = omega arith in e)
ror_value x i (suc j) h =
    let one : j + 1 ≡ suc j = omega arith in
    let all : i + j + 1 ≡ i + suc j = omega arith in
    ap (λ n. shifted Ror (shifted Ror x i) n) (sym one)
    ∙ sym (rotated_once (shifted Ror x i) j (rotated-lt x i h))
    ∙ ap (λ v. shifted Ror v 1) (ror_value x i j h)
    ∙ rotated_once x (i + j) h
    ∙ ap (λ n. shifted Ror x n) all

-- ---- every kind

-- the value after the second shift, and the last bit that it moves out
value_again : (kind : Shift) (x i j : ℕ) → x < 2 ^ 32 → shifted kind (shifted kind x i) j ≡ shifted kind x (i + j)
value_again Lsl x i j h = lsl_value x i j
value_again Lsr x i j h = shr-shr x i j
value_again Asr x i j h = asr_value x i j h
value_again Ror x i j h = ror_value x i j h

out_again : (kind : Shift) (x i j : ℕ) → x < 2 ^ 32 → 0 < j → last_out kind (shifted kind x i) j ≡ last_out kind x (i + j)
out_again Lsl x i j h k = lsl_out_again x i j k
out_again Lsr x i j h k = bit_below x i j k
out_again Asr x i j h k = asr_out_again x i j h k
out_again Ror x i j h k = ap (λ v. bit_at v 31) (ror_value x i j h)

-- a shift by an amount that is not 0
pub shift_of-some : (kind : Shift) (x n : ℕ) (c : Bool) → 0 < n → shift_of kind x n c ≡ (shifted kind x n, eqb (last_out kind x n) 1)
shift_of-some kind x n c h = cond-false (eqb n 0) (x, c) (shifted kind x n, eqb (last_out kind x n) 1) (ne_eqb n 0 (λ z. omega arith))

-- two shifts of one kind, one after the other, are one: the value and the carry
pub shift_of-shift_of : (kind : Shift) (x i j : ℕ) (c : Bool) → x < 2 ^ 32 → shift_of kind (shift_of kind x i c).0 j (shift_of kind x i c).1 ≡ shift_of kind x (i + j) c
shift_of-shift_of kind x i j c h =
    ⊎_elim
    (λ (none : j ≡ 0). subst (λ k. shift_of kind (shift_of kind x i c).0 k (shift_of kind x i c).1 ≡ shift_of kind x (i + k) c) (sym none) (ap (λ k. shift_of kind x k c) (let e : i ≡ i + 0 = omega arith in e)))
    (λ (some : j ≡ 0 → ⊥). ⊎_elim
    (λ (none : i ≡ 0). subst (λ k. shift_of kind (shift_of kind x k c).0 j (shift_of kind x k c).1 ≡ shift_of kind x (k + j) c) (sym none) (ap (λ k. shift_of kind x k c) (let e : j ≡ 0 + j = omega arith in e)))
    (λ (first : i ≡ 0 → ⊥).
    ap (λ (p : ℕ × Bool). shift_of kind p.0 j p.1) (shift_of-some kind x i c (omega arith))
    ∙ shift_of-some kind (shifted kind x i) j (eqb (last_out kind x i) 1) (omega arith)
    ∙ ap (λ v. (v, eqb (last_out kind (shifted kind x i) j) 1)) (value_again kind x i j h)
    ∙ ap (λ v. (shifted kind x (i + j), eqb v 1)) (out_again kind x i j h (omega arith))
    ∙ sym (shift_of-some kind x (i + j) c (omega arith)))
    (cases_eq i 0))
    (cases_eq j 0)
