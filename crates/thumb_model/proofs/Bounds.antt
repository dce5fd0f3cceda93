-- The results of the ARM manual's functions are below 2^32.
use Rattle.std.proofs.Common.{◌≡◌, ℕ, ◌+◌, ◌-◌, ◌*◌, ◌/◌, ◌%◌, ◌^◌, zero, suc, ◌<◌, ◌≤◌, ◌==◌, nat_le, Bool, true, false, if◌then◌else◌, arith}
use Rattle.std.specs.Prelude.{bit_and}
use Rattle.std.specs.Int.{bit_at}
use Rattle.std.specs.Int.Bits.{and_lt}
use Rattle.std.proofs.lemmas.Nat.{div_below, shr_le, pow-add}
use Rattle.std.proofs.lemmas.Nat.Bits.{bit_at-lt}
use Rattle.std.proofs.Math.Nat.{mod-lt}
use Rattle.std.proofs.Math.Pow.{pow_pos}
use Rattle.word_bits.specs.declared.Shift.{Shift as WordShift}
use Rattle.word_bits.specs.declared.Shift.TheVariants as shift
use Rattle.word_bits.specs.Word.{byte, extended, shifted, last_out, shift_of, sign_extended}
use Rattle.word_bits.proofs.Successive.{rotated-lt}
use Rattle.thumb_instr.specs.declared.operation.SumOperation.{SumOperation}
use Rattle.thumb_instr.specs.declared.operation.SumOperation.TheVariants as sum
use Rattle.thumb_instr.specs.declared.operation.Extension.{Extension}
use Rattle.thumb_instr.specs.declared.operation.Extension.TheVariants as extension
use Rattle.thumb_instr.specs.declared.operation.Reversal.{Reversal}
use Rattle.thumb_instr.specs.declared.operation.Reversal.TheVariants as reversal
use Rattle.thumb_model.specs.Effect.{three_sum, extension_of, reversal_of}

-- a row: a sum
pub sum_small : (s : SumOperation) (x y : ℕ) → (three_sum s x y).value < 2 ^ 32
sum_small sum.Add x y = omega arith
sum_small sum.Sub x y = omega arith

extended_small : (x n b p w : ℕ) → x < 4294967296 → b < 2 → 0 < p → w ≡ 4294967296 * p → x + b * (w - 4294967296) < 4294967296 * p
extended_small x n b p w h k l e = elim_bit b k
  where
    elim_bit : (b : ℕ) → b < 2 → x + b * (w - 4294967296) < 4294967296 * p
    elim_bit zero k = omega arith
    elim_bit (suc zero) k = omega arith
    elim_bit (suc (suc b)) k = absurd (omega arith)

shifted_small : (k : WordShift) (x n : ℕ) → x < 2 ^ 32 → shifted k x n < 2 ^ 32
shifted_small shift.Lsl x n h = mod-lt (x * 2 ^ n) {m = 2 ^ 32} (omega arith)
shifted_small shift.Lsr x n h = let l : x / 2 ^ n ≤ x = shr_le x n in omega arith
shifted_small shift.Asr x n h = div_below (extended x n) (2 ^ n) (2 ^ 32) (pow_pos n) (extended_small x n (bit_at x 31) (2 ^ n) (2 ^ (32 + n)) h (bit_at-lt x 31) (pow_pos n) (pow-add 2 32 n))
shifted_small shift.Ror x n h = rotated-lt x n h

-- a shifted word
pub shift_small : (k : WordShift) (x n : ℕ) (c : Bool) → x < 2 ^ 32 → (shift_of k x n c).0 < 2 ^ 32
shift_small k x n c h =
    elim (n == 0) as (λ b. (let r : ℕ × Bool = if b then (x, c) else (shifted k x n, last_out k x n == 1) in r).0 < 2 ^ 32) [ true ↦ h | false ↦ shifted_small k x n h ]

-- a word of which the low byte or halfword is extended
pub sign_small_8 : (x : ℕ) → sign_extended x 8 < 2 ^ 32
sign_small_8 x = elim (nat_le 128 (x % 256)) as (λ b. (if b then x % 256 + 4294967040 else x % 256) < 4294967296) [ true ↦ omega arith | false ↦ omega arith ]

pub sign_small_16 : (x : ℕ) → sign_extended x 16 < 2 ^ 32
sign_small_16 x = elim (nat_le 32768 (x % 65536)) as (λ b. (if b then x % 65536 + 4294901760 else x % 65536) < 4294967296) [ true ↦ omega arith | false ↦ omega arith ]

-- a row: an extension
pub extension_small : (e : Extension) (x : ℕ) → extension_of e x < 2 ^ 32
extension_small extension.Sxth x = sign_small_16 x
extension_small extension.Sxtb x = sign_small_8 x
extension_small extension.Uxth x = omega arith
extension_small extension.Uxtb x = omega arith

byte_small : (x i : ℕ) → byte x i < 256
byte_small x i = mod-lt (x / 2 ^ (8 * i)) {m = 256} (omega arith)

four_bytes : (a b c d : ℕ) → a < 256 → b < 256 → c < 256 → d < 256 → a * 2 ^ 24 + b * 2 ^ 16 + c * 2 ^ 8 + d < 2 ^ 32
four_bytes a b c d h k l m = omega arith

-- a row: a reversal
pub reversal_small : (r : Reversal) (x : ℕ) → reversal_of r x < 2 ^ 32
reversal_small reversal.Rev x = four_bytes _ _ _ _ (byte_small x 0) (byte_small x 1) (byte_small x 2) (byte_small x 3)
reversal_small reversal.Rev16 x = four_bytes _ _ _ _ (byte_small x 2) (byte_small x 3) (byte_small x 0) (byte_small x 1)
reversal_small reversal.Revsh x = sign_small_16 (byte x 0 * 2 ^ 8 + byte x 1)

pub and_small : (x y : ℕ) → x < 2 ^ 32 → y < 2 ^ 32 → bit_and x y < 2 ^ 32
and_small x y h k = and_lt 32 x y h k
