-- Operations on a word that need no gate: its number is then shifted, extended or reversed as the manual says.
use Rattle.std.proofs.Common.{◌≡◌, ℕ, ◌+◌, ◌-◌, ◌*◌, ◌^◌, ◌/◌, ◌%◌, ◌<◌, ◌≤◌, List, ◌++◌, Bool, true, false, eqb, leb, length, refl, sym, ap, ◌∙◌, arith, take, drop, length-append, length-take, length-drop, ⊎_elim, if◌then◌else◌}
use Rattle.std.proofs.Math.Nat.{add-mul-div_right, mod-eq_of_lt}
use Rattle.std.proofs.lemmas.Nat.{pow_pos, pow-add}
use Rattle.std.proofs.lemmas.Nat.Bits.{shr_and_one}
use Rattle.std.proofs.lemmas.Bool.{le-leb, lt-leb, cases_lt}
use Rattle.std.specs.Int.{from_bool, bit_at}
use Rattle.word_bits.specs.declared.Shift.{Shift}
use Rattle.word_bits.specs.declared.Shift.TheVariants.{Lsl, Lsr, Asr, Ror}
use Rattle.word_bits.specs.Word.{extended as extended_by, shifted, last_out, sign_extended, byte, reversed_signed}
use Rattle.word_bits.proofs.Words.{mod_moved, lsl_out, asr_near, asr_far}
use Rattle.thumb_instr.specs.declared.operation.Extension.{Extension}
use Rattle.thumb_instr.specs.declared.operation.Extension.TheVariants as extension
use Rattle.thumb_instr.specs.declared.operation.Reversal.{Reversal}
use Rattle.thumb_instr.specs.declared.operation.Reversal.TheVariants as reversal
use Rattle.thumb_model.specs.Effect.{extension_of, reversal_of}
use Rattle.cnf_gates.specs.declared.bit.Bit.{Bit}
use Rattle.cnf_gates.specs.declared.bit.Bit.TheVariants.{Constant}
use Rattle.cnf_gates.specs.Meaning.{bit_value}
use Rattle.cnf_gates.specs.Growth.{BitBelow, AllBelow}
use Rattle.bit_blast.specs.Words.{bit_of, copies, filled, constant, fill, moved, moved_out, extended, byte_bits, turned}
use Rattle.bit_blast.specs.Exactness.{number_of}
use Rattle.bit_blast.proofs.Numbers.{number_of-append, number_of-take, number_of-drop, number_of-copies, number_of-zeros, number_of-number_bits, number_at, number_lt, length-copies, length-number_bits, AllBelow-append, AllBelow-copies, AllBelow-take, AllBelow-drop, AllBelow-number_bits, bit_below}

-- ---- whole words of one bit, and numbers

pub length-filled : (x : Bit) → length (filled x) ≡ 32
unfolding filled
length-filled x = length-copies 32 x

pub number_of-filled : (m : ℕ → Bool) (x : Bit) → number_of m (filled x) ≡ from_bool (bit_value m x) * (2 ^ 32 - 1)
unfolding filled
number_of-filled m x = number_of-copies m 32 x

pub AllBelow-filled : (v : ℕ) (x : Bit) → BitBelow v x → AllBelow v (filled x)
unfolding filled
AllBelow-filled v x h = AllBelow-copies v 32 x h

pub length-constant : (x : ℕ) → length (constant x) ≡ 32
unfolding constant
length-constant x = length-number_bits 32 x

pub number_of-constant : (m : ℕ → Bool) (x : ℕ) → x < 2 ^ 32 → number_of m (constant x) ≡ x
unfolding constant
number_of-constant m x h = number_of-number_bits m 32 x ∙ mod-eq_of_lt h

pub AllBelow-constant : (v x : ℕ) → AllBelow v (constant x)
unfolding constant
AllBelow-constant v x = AllBelow-number_bits v 32 x

-- ---- moves

-- a shift that isn't a rotation
abbrev pub IsStraight : Shift → Type 0
IsStraight Ror = ⊥
IsStraight k = Unit {0}

pub length-moved : (kind : Shift) (n : ℕ) (xs : List Bit) → n ≤ 32 → length xs ≡ 32 → length (moved kind n xs) ≡ 32
length-moved Lsl n xs h wide = omega (arith, length-append (copies n (Constant false)) (take (32 - n) xs), length-copies n (Constant false), length-take (32 - n) xs)
length-moved Lsr n xs h wide = omega (arith, length-append (drop n xs) (copies n (Constant false)), length-copies n (Constant false), length-drop n xs)
length-moved Asr n xs h wide = omega (arith, length-append (drop n xs) (copies n (bit_of xs 31)), length-copies n (bit_of xs 31), length-drop n xs)
length-moved Ror n xs h wide = omega (arith, length-append (drop n xs) (take n xs), length-take n xs, length-drop n xs)

pub AllBelow-moved : (v : ℕ) (kind : Shift) (n : ℕ) (xs : List Bit) → AllBelow v xs → AllBelow v (moved kind n xs)
AllBelow-moved v Lsl n xs h = AllBelow-append v (copies n (Constant false)) (take (32 - n) xs) (AllBelow-copies v n (Constant false) tt) (AllBelow-take v (32 - n) xs h)
AllBelow-moved v Lsr n xs h = AllBelow-append v (drop n xs) (copies n (Constant false)) (AllBelow-drop v n xs h) (AllBelow-copies v n (Constant false) tt)
AllBelow-moved v Asr n xs h = AllBelow-append v (drop n xs) (copies n (bit_of xs 31)) (AllBelow-drop v n xs h) (AllBelow-copies v n (bit_of xs 31) (bit_below v xs 31 h))
AllBelow-moved v Ror n xs h = AllBelow-append v (drop n xs) (take n xs) (AllBelow-drop v n xs h) (AllBelow-take v n xs h)

pub below-moved_out : (v : ℕ) (kind : Shift) (n : ℕ) (xs : List Bit) → AllBelow v xs → BitBelow v (moved_out kind n xs)
below-moved_out v Lsl n xs h = bit_below v xs (32 - n) h
below-moved_out v kind n xs h = bit_below v xs (n - 1) h

pub below-fill : (v : ℕ) (kind : Shift) (xs : List Bit) → AllBelow v xs → BitBelow v (fill kind xs)
below-fill v Asr xs h = bit_below v xs 31 h
below-fill v kind xs h = tt

moved-lsl : (m : ℕ → Bool) (xs : List Bit) (n : ℕ) → n ≤ 32 → number_of m (moved Lsl n xs) ≡ shifted Lsl (number_of m xs) n
moved-lsl m xs n h =
    let turned : 32 - (32 - n) ≡ n = omega arith in
    number_of-append m (copies n (Constant false)) (take (32 - n) xs)
    ∙ rw (number_of-zeros m n, length-copies n (Constant false), number_of-take m xs (32 - n))
    (let e : number_of m xs * 2 ^ (32 - (32 - n)) % 2 ^ 32 ≡ number_of m xs % 2 ^ (32 - n) * 2 ^ (32 - (32 - n)) = mod_moved (number_of m xs) (32 - n) 32 (omega arith) in
    let f : number_of m xs * 2 ^ n % 2 ^ 32 ≡ number_of m xs % 2 ^ (32 - n) * 2 ^ n = rw turned at e in
    omega (arith, f))

moved-lsr : (m : ℕ → Bool) (xs : List Bit) (n : ℕ) → number_of m (moved Lsr n xs) ≡ shifted Lsr (number_of m xs) n
moved-lsr m xs n = number_of-append m (drop n xs) (copies n (Constant false)) ∙ rw (number_of-zeros m n, number_of-drop m xs n) (omega arith)

-- the copies of a sign bit, as a multiple of a power of two
sign_copies : (p r w b : ℕ) → p * (r + 1) ≡ w → b * (w * (r + 1) - w) ≡ p * (b * r) * (r + 1)
sign_copies p r w b e =
    let d : w * (r + 1) - w ≡ w * r = omega arith in
    let f : b * r * (p * (r + 1)) ≡ b * r * w = ap (λ v. b * r * v) e in
    rw d (omega (arith, f))

asr_parts : (x n : ℕ) → n ≤ 32 → extended_by x n / 2 ^ n ≡ x / 2 ^ n + 2 ^ (32 - n) * (bit_at x 31 * (2 ^ n - 1))
asr_parts x n h =
    let r : ℕ = 2 ^ n - 1 in
    let some : 0 < 2 ^ n = pow_pos n in
    let q : 2 ^ n ≡ r + 1 = omega arith in
    let whole : 2 ^ (32 - n) * 2 ^ n ≡ 2 ^ 32 = sym (pow-add 2 (32 - n) n) ∙ ap (λ k. 2 ^ k) (let e : 32 - n + n ≡ 32 = omega arith in e) in
    let parts : 2 ^ (32 - n) * (r + 1) ≡ 2 ^ 32 = ap (λ v. 2 ^ (32 - n) * v) (sym q) ∙ whole in
    let copied : bit_at x 31 * (2 ^ 32 * (r + 1) - 2 ^ 32) ≡ 2 ^ (32 - n) * (bit_at x 31 * r) * (r + 1) = sign_copies (2 ^ (32 - n)) r (2 ^ 32) (bit_at x 31) parts in
    let is : extended_by x n ≡ x + 2 ^ (32 - n) * (bit_at x 31 * r) * 2 ^ n =
    ap (λ v. x + bit_at x 31 * (v - 2 ^ 32)) (pow-add 2 32 n ∙ ap (λ v. 2 ^ 32 * v) q) ∙ ap (λ v. x + v) copied ∙ ap (λ v. x + 2 ^ (32 - n) * (bit_at x 31 * r) * v) (sym q) in
    ap (λ v. v / 2 ^ n) is ∙ add-mul-div_right x (2 ^ (32 - n) * (bit_at x 31 * r)) (pow_pos n)

moved-asr : (m : ℕ → Bool) (xs : List Bit) (n : ℕ) → n ≤ 32 → length xs ≡ 32 → number_of m (moved Asr n xs) ≡ shifted Asr (number_of m xs) n
moved-asr m xs n h wide =
    let rest : length (drop n xs) ≡ 32 - n = length-drop n xs ∙ ap (λ k. k - n) wide in
    number_of-append m (drop n xs) (copies n (bit_of xs 31))
    ∙ ap (λ k. number_of m (drop n xs) + 2 ^ k * number_of m (copies n (bit_of xs 31))) rest
    ∙ ap (λ v. v + 2 ^ (32 - n) * number_of m (copies n (bit_of xs 31))) (number_of-drop m xs n)
    ∙ ap (λ v. number_of m xs / 2 ^ n + 2 ^ (32 - n) * v) (number_of-copies m n (bit_of xs 31) ∙ ap (λ v. v * (2 ^ n - 1)) (number_at m xs 31))
    ∙ sym (asr_parts (number_of m xs) n h)

pub moved-ror : (m : ℕ → Bool) (xs : List Bit) (n : ℕ) → n < 32 → length xs ≡ 32 → number_of m (moved Ror n xs) ≡ shifted Ror (number_of m xs) n
moved-ror m xs n h wide =
    let x : ℕ = number_of m xs in
    let rest : length (drop n xs) ≡ 32 - n = length-drop n xs ∙ ap (λ k. k - n) wide in
    let same : n % 32 ≡ n = mod-eq_of_lt h in
    let high : x * 2 ^ (32 - n) % 2 ^ 32 ≡ x % 2 ^ n * 2 ^ (32 - n) = mod_moved x n 32 (omega arith) in
    let order : 2 ^ (32 - n) * (x % 2 ^ n) ≡ x % 2 ^ n * 2 ^ (32 - n) = omega arith in
    number_of-append m (drop n xs) (take n xs)
    ∙ ap (λ k. number_of m (drop n xs) + 2 ^ k * number_of m (take n xs)) rest
    ∙ ap (λ v. v + 2 ^ (32 - n) * number_of m (take n xs)) (number_of-drop m xs n)
    ∙ ap (λ v. x / 2 ^ n + 2 ^ (32 - n) * v) (number_of-take m xs n)
    ∙ ap (λ v. x / 2 ^ n + v) (order ∙ sym high)
    ∙ sym (ap (λ k. x / 2 ^ k + x * 2 ^ (32 - k) % 2 ^ 32) same)

pub moved_is : (m : ℕ → Bool) (kind : Shift) (xs : List Bit) (n : ℕ) → IsStraight kind → n ≤ 32 → length xs ≡ 32 → number_of m (moved kind n xs) ≡ shifted kind (number_of m xs) n
moved_is m Lsl xs n s h wide = moved-lsl m xs n h
moved_is m Lsr xs n s h wide = moved-lsr m xs n
moved_is m Asr xs n s h wide = moved-asr m xs n h wide
moved_is m Ror xs n s h wide = absurd s

asr_out : (x n : ℕ) → x < 2 ^ 32 → 0 < n → n ≤ 32 → bit_at x (n - 1) ≡ bit_at (extended_by x n) (n - 1)
asr_out x n hx h0 h =
    ⊎_elim
    (λ (below : n < 32). sym (asr_near x n (bit_at x 31 * (2 ^ 32 - 1)) hx h0 below refl).1)
    (λ (beyond : 32 ≤ n).
    let e : n ≡ 32 = omega arith in
    ap (λ k. bit_at x (k - 1)) e ∙ sym (ap (λ k. bit_at (extended_by x k) (k - 1)) e ∙ (asr_far x 32 hx (omega arith)).1))
    (cases_lt n 32)

pub out_is : (m : ℕ → Bool) (kind : Shift) (xs : List Bit) (n : ℕ) → IsStraight kind → 0 < n → n ≤ 32 → length xs ≡ 32 → from_bool (bit_value m (moved_out kind n xs)) ≡ last_out kind (number_of m xs) n
out_is m Lsl xs n s h0 h wide = number_at m xs (32 - n) ∙ sym (shr_and_one (number_of m xs) (32 - n)) ∙ lsl_out (number_of m xs) n h
out_is m Lsr xs n s h0 h wide = number_at m xs (n - 1)
out_is m Asr xs n s h0 h wide = number_at m xs (n - 1) ∙ asr_out (number_of m xs) n (number_lt m xs wide) h0 h
out_is m Ror xs n s h0 h wide = absurd s

pub one_test : (b : Bool) (n : ℕ) → from_bool b ≡ n → b ≡ eqb n 1
one_test true n e = ap (λ k. eqb k 1) e
one_test false n e = ap (λ k. eqb k 1) e

-- ---- extensions

length-low_and_copies : (n k : ℕ) (xs : List Bit) (x : Bit) → n + k ≡ 32 → length xs ≡ 32 → length (take n xs ++ copies k x) ≡ 32
length-low_and_copies n k xs x e wide = omega (arith, length-append (take n xs) (copies k x), length-take n xs, length-copies k x)

pub length-extended : (e : Extension) (xs : List Bit) → length xs ≡ 32 → length (extended e xs) ≡ 32
length-extended extension.Sxth xs wide = length-low_and_copies 16 16 xs (bit_of xs 15) refl wide
length-extended extension.Sxtb xs wide = length-low_and_copies 8 24 xs (bit_of xs 7) refl wide
length-extended extension.Uxth xs wide = length-low_and_copies 16 16 xs (Constant false) refl wide
length-extended extension.Uxtb xs wide = length-low_and_copies 8 24 xs (Constant false) refl wide

below-low_and_copies : (v n k : ℕ) (xs : List Bit) (x : Bit) → AllBelow v xs → BitBelow v x → AllBelow v (take n xs ++ copies k x)
below-low_and_copies v n k xs x h p = AllBelow-append v (take n xs) (copies k x) (AllBelow-take v n xs h) (AllBelow-copies v k x p)

pub AllBelow-extended : (v : ℕ) (e : Extension) (xs : List Bit) → AllBelow v xs → AllBelow v (extended e xs)
AllBelow-extended v extension.Sxth xs h = below-low_and_copies v 16 16 xs (bit_of xs 15) h (bit_below v xs 15 h)
AllBelow-extended v extension.Sxtb xs h = below-low_and_copies v 8 24 xs (bit_of xs 7) h (bit_below v xs 7 h)
AllBelow-extended v extension.Uxth xs h = below-low_and_copies v 16 16 xs (Constant false) h tt
AllBelow-extended v extension.Uxtb xs h = below-low_and_copies v 8 24 xs (Constant false) h tt

low_and_copies : (m : ℕ → Bool) (n k : ℕ) (xs : List Bit) (x : Bit) → n ≤ 32 → length xs ≡ 32 → number_of m (take n xs ++ copies k x) ≡ number_of m xs % 2 ^ n + 2 ^ n * (from_bool (bit_value m x) * (2 ^ k - 1))
low_and_copies m n k xs x h wide =
    let low : length (take n xs) ≡ n = omega (arith, length-take n xs) in
    number_of-append m (take n xs) (copies k x)
    ∙ ap (λ j. number_of m (take n xs) + 2 ^ j * number_of m (copies k x)) low
    ∙ ap (λ v. v + 2 ^ n * number_of m (copies k x)) (number_of-take m xs n)
    ∙ ap (λ v. number_of m xs % 2 ^ n + 2 ^ n * v) (number_of-copies m k x)

-- the copies of a sign bit are what SignExtend adds
small_sign : (low half more t : ℕ) → low < half → t ≡ 0 → low + t * more ≡ (if leb half low then low + more else low)
small_sign low half more t h e = rw (e, lt-leb half low h) (omega arith)

great_sign : (low half more t : ℕ) → half ≤ low → t ≡ 1 → low + t * more ≡ (if leb half low then low + more else low)
great_sign low half more t h e = rw (e, le-leb half low h) (omega arith)

signed_8 : (x t : ℕ) → t ≡ bit_at x 7 → x % 2 ^ 8 + 2 ^ 8 * (t * (2 ^ 24 - 1)) ≡ sign_extended x 8
signed_8 x t e =
    let turned : x % 2 ^ 8 + 2 ^ 8 * (t * (2 ^ 24 - 1)) ≡ x % 2 ^ 8 + t * (2 ^ 32 - 2 ^ 8) = omega arith in
    turned
    ∙ ⊎_elim
    (λ (h : x % 2 ^ 8 < 2 ^ 7). small_sign (x % 2 ^ 8) (2 ^ 7) (2 ^ 32 - 2 ^ 8) t h (omega (arith, e)))
    (λ (h : 2 ^ 7 ≤ x % 2 ^ 8). great_sign (x % 2 ^ 8) (2 ^ 7) (2 ^ 32 - 2 ^ 8) t h (omega (arith, e)))
    (cases_lt (x % 2 ^ 8) (2 ^ 7))

signed_16 : (x t : ℕ) → t ≡ bit_at x 15 → x % 2 ^ 16 + 2 ^ 16 * (t * (2 ^ 16 - 1)) ≡ sign_extended x 16
signed_16 x t e =
    let turned : x % 2 ^ 16 + 2 ^ 16 * (t * (2 ^ 16 - 1)) ≡ x % 2 ^ 16 + t * (2 ^ 32 - 2 ^ 16) = omega arith in
    turned
    ∙ ⊎_elim
    (λ (h : x % 2 ^ 16 < 2 ^ 15). small_sign (x % 2 ^ 16) (2 ^ 15) (2 ^ 32 - 2 ^ 16) t h (omega (arith, e)))
    (λ (h : 2 ^ 15 ≤ x % 2 ^ 16). great_sign (x % 2 ^ 16) (2 ^ 15) (2 ^ 32 - 2 ^ 16) t h (omega (arith, e)))
    (cases_lt (x % 2 ^ 16) (2 ^ 15))

pub extended_is : (m : ℕ → Bool) (e : Extension) (xs : List Bit) → length xs ≡ 32 → number_of m (extended e xs) ≡ extension_of e (number_of m xs)
extended_is m extension.Sxth xs wide = low_and_copies m 16 16 xs (bit_of xs 15) (omega arith) wide ∙ signed_16 (number_of m xs) (from_bool (bit_value m (bit_of xs 15))) (number_at m xs 15)
extended_is m extension.Sxtb xs wide = low_and_copies m 8 24 xs (bit_of xs 7) (omega arith) wide ∙ signed_8 (number_of m xs) (from_bool (bit_value m (bit_of xs 7))) (number_at m xs 7)
extended_is m extension.Uxth xs wide = low_and_copies m 16 16 xs (Constant false) (omega arith) wide ∙ omega arith
extended_is m extension.Uxtb xs wide = low_and_copies m 8 24 xs (Constant false) (omega arith) wide ∙ omega arith

-- ---- reversals

length-byte : (i : ℕ) (xs : List Bit) → i < 4 → length xs ≡ 32 → length (byte_bits i xs) ≡ 8
length-byte i xs h wide = omega (arith, length-take 8 (drop (8 * i) xs), length-drop (8 * i) xs)

AllBelow-byte : (v i : ℕ) (xs : List Bit) → AllBelow v xs → AllBelow v (byte_bits i xs)
AllBelow-byte v i xs h = AllBelow-take v 8 (drop (8 * i) xs) (AllBelow-drop v (8 * i) xs h)

byte_is : (m : ℕ → Bool) (i : ℕ) (xs : List Bit) → number_of m (byte_bits i xs) ≡ byte (number_of m xs) i
byte_is m i xs = number_of-take m (drop (8 * i) xs) 8 ∙ ap (λ v. v % 2 ^ 8) (number_of-drop m xs (8 * i))

-- the number of two bytes and of what follows them
two_bytes : (m : ℕ → Bool) (a b c : List Bit) (x y z : ℕ) → length a ≡ 8 → length b ≡ 8 → number_of m a ≡ x → number_of m b ≡ y → number_of m c ≡ z → number_of m ((a ++ b) ++ c) ≡ x + 2 ^ 8 * y + 2 ^ 16 * z
two_bytes m a b c x y z wa wb ea eb ec =
    let both : length (a ++ b) ≡ 16 = omega (arith, length-append a b) in
    number_of-append m (a ++ b) c
    ∙ ap (λ k. number_of m (a ++ b) + 2 ^ k * number_of m c) both
    ∙ ap (λ v. number_of m (a ++ b) + 2 ^ 16 * v) ec
    ∙ ap (λ v. v + 2 ^ 16 * z) (number_of-append m a b ∙ ap (λ k. number_of m a + 2 ^ k * number_of m b) wa ∙ ap (λ v. v + 2 ^ 8 * number_of m b) ea ∙ ap (λ v. x + 2 ^ 8 * v) eb)

four_bytes : (m : ℕ → Bool) (a b c d : List Bit) (x y z w : ℕ) → length a ≡ 8 → length b ≡ 8 → length c ≡ 8 → number_of m a ≡ x → number_of m b ≡ y → number_of m c ≡ z → number_of m d ≡ w
    → number_of m (((a ++ b) ++ c) ++ d) ≡ w * 2 ^ 24 + z * 2 ^ 16 + y * 2 ^ 8 + x
four_bytes m a b c d x y z w wa wb wc ea eb ec ed =
    let three : length ((a ++ b) ++ c) ≡ 24 = omega (arith, length-append a b, length-append (a ++ b) c) in
    let first : number_of m ((a ++ b) ++ c) ≡ x + 2 ^ 8 * y + 2 ^ 16 * z = two_bytes m a b c x y z wa wb ea eb ec in
    let whole : number_of m (((a ++ b) ++ c) ++ d) ≡ number_of m ((a ++ b) ++ c) + 2 ^ 24 * number_of m d = number_of-append m ((a ++ b) ++ c) d ∙ ap (λ k. number_of m ((a ++ b) ++ c) + 2 ^ k * number_of m d) three in
    omega (arith, whole, first, ed)

length_of_bytes : (a b c d : List Bit) → length a ≡ 8 → length b ≡ 8 → length c ≡ 8 → length d ≡ 8 → length (((a ++ b) ++ c) ++ d) ≡ 32
length_of_bytes a b c d wa wb wc wd = omega (arith, length-append a b, length-append (a ++ b) c, length-append ((a ++ b) ++ c) d)

pub length-turned : (r : Reversal) (xs : List Bit) → length xs ≡ 32 → length (turned r xs) ≡ 32
length-turned reversal.Rev xs wide =
    length_of_bytes (byte_bits 3 xs) (byte_bits 2 xs) (byte_bits 1 xs) (byte_bits 0 xs) (length-byte 3 xs (omega arith) wide) (length-byte 2 xs (omega arith) wide) (length-byte 1 xs (omega arith) wide) (length-byte 0 xs (omega arith) wide)
length-turned reversal.Rev16 xs wide =
    length_of_bytes (byte_bits 1 xs) (byte_bits 0 xs) (byte_bits 3 xs) (byte_bits 2 xs) (length-byte 1 xs (omega arith) wide) (length-byte 0 xs (omega arith) wide) (length-byte 3 xs (omega arith) wide) (length-byte 2 xs (omega arith) wide)
length-turned reversal.Revsh xs wide =
    omega (arith, length-append (byte_bits 1 xs) (byte_bits 0 xs), length-append (byte_bits 1 xs ++ byte_bits 0 xs) (copies 16 (bit_of xs 7)), length-copies 16 (bit_of xs 7), length-byte 1 xs (omega arith) wide, length-byte 0 xs (omega arith) wide)

pub AllBelow-turned : (v : ℕ) (r : Reversal) (xs : List Bit) → AllBelow v xs → AllBelow v (turned r xs)
AllBelow-turned v reversal.Rev xs h =
    AllBelow-append v ((byte_bits 3 xs ++ byte_bits 2 xs) ++ byte_bits 1 xs) (byte_bits 0 xs)
    (AllBelow-append v (byte_bits 3 xs ++ byte_bits 2 xs) (byte_bits 1 xs) (AllBelow-append v (byte_bits 3 xs) (byte_bits 2 xs) (AllBelow-byte v 3 xs h) (AllBelow-byte v 2 xs h)) (AllBelow-byte v 1 xs h))
    (AllBelow-byte v 0 xs h)
AllBelow-turned v reversal.Rev16 xs h =
    AllBelow-append v ((byte_bits 1 xs ++ byte_bits 0 xs) ++ byte_bits 3 xs) (byte_bits 2 xs)
    (AllBelow-append v (byte_bits 1 xs ++ byte_bits 0 xs) (byte_bits 3 xs) (AllBelow-append v (byte_bits 1 xs) (byte_bits 0 xs) (AllBelow-byte v 1 xs h) (AllBelow-byte v 0 xs h)) (AllBelow-byte v 3 xs h))
    (AllBelow-byte v 2 xs h)
AllBelow-turned v reversal.Revsh xs h =
    AllBelow-append v (byte_bits 1 xs ++ byte_bits 0 xs) (copies 16 (bit_of xs 7)) (AllBelow-append v (byte_bits 1 xs) (byte_bits 0 xs) (AllBelow-byte v 1 xs h) (AllBelow-byte v 0 xs h)) (AllBelow-copies v 16 (bit_of xs 7) (bit_below v xs 7 h))

-- REVSH: two bytes that were exchanged, and the copies of their sign bit
exchanged : (x a b t : ℕ) → a ≡ byte x 0 → b ≡ byte x 1 → t ≡ bit_at x 7 → b + 2 ^ 8 * a + 2 ^ 16 * (t * (2 ^ 16 - 1)) ≡ reversed_signed x
exchanged x a b t ea eb et =
    let y : ℕ = byte x 0 * 2 ^ 8 + byte x 1 in
    let below_a : byte x 0 < 2 ^ 8 = omega arith in
    let below_b : byte x 1 < 2 ^ 8 = omega arith in
    let bit : bit_at x 7 ≡ byte x 0 / 2 ^ 7 = omega arith in
    let sign : t ≡ bit_at y 15 = et ∙ bit ∙ omega arith in
    let low : y % 2 ^ 16 ≡ y = mod-eq_of_lt (omega arith) in
    let parts : b + 2 ^ 8 * a + 2 ^ 16 * (t * (2 ^ 16 - 1)) ≡ y % 2 ^ 16 + 2 ^ 16 * (t * (2 ^ 16 - 1)) = omega (arith, low, ea, eb) in
    parts ∙ signed_16 y t sign

pub turned_is : (m : ℕ → Bool) (r : Reversal) (xs : List Bit) → length xs ≡ 32 → number_of m (turned r xs) ≡ reversal_of r (number_of m xs)
turned_is m reversal.Rev xs wide =
    four_bytes m (byte_bits 3 xs) (byte_bits 2 xs) (byte_bits 1 xs) (byte_bits 0 xs) _ _ _ _ (length-byte 3 xs (omega arith) wide) (length-byte 2 xs (omega arith) wide) (length-byte 1 xs (omega arith) wide)
    (byte_is m 3 xs) (byte_is m 2 xs) (byte_is m 1 xs) (byte_is m 0 xs)
turned_is m reversal.Rev16 xs wide =
    four_bytes m (byte_bits 1 xs) (byte_bits 0 xs) (byte_bits 3 xs) (byte_bits 2 xs) _ _ _ _ (length-byte 1 xs (omega arith) wide) (length-byte 0 xs (omega arith) wide) (length-byte 3 xs (omega arith) wide)
    (byte_is m 1 xs) (byte_is m 0 xs) (byte_is m 3 xs) (byte_is m 2 xs)
turned_is m reversal.Revsh xs wide =
    two_bytes m (byte_bits 1 xs) (byte_bits 0 xs) (copies 16 (bit_of xs 7)) _ _ _ (length-byte 1 xs (omega arith) wide) (length-byte 0 xs (omega arith) wide) (byte_is m 1 xs) (byte_is m 0 xs) (number_of-copies m 16 (bit_of xs 7))
    ∙ exchanged (number_of m xs) (byte (number_of m xs) 0) (byte (number_of m xs) 1) (from_bool (bit_value m (bit_of xs 7))) refl refl (number_at m xs 7)
