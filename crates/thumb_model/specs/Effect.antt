-- The items and what they hold, what each instruction that only computes writes, by the ARM manual's pseudocode, and when two sequences are equal on a mask.
use Rattle.std.specs.Prelude.{ℕ, ◌<◌, ◌^◌, ◌/◌, ◌*◌, ◌≤◌, ◌==◌, List, [], ◌∷◌, if◌then◌else◌, true, false, Bool, ◌-◌, ◌%◌, bit_and, bit_or, bit_xor, ◌≡◌, ◌+◌, ◌||◌, max, Some, slice_get}
pub use Rattle.thumb_instr.specs.Items.{sp, lr, n_flag, z_flag, c_flag, v_flag, one_of}
use Rattle.std.specs.Int.{bit_at, from_bool}
use Rattle.word_bits.specs.declared.Sum.{Sum as WordSum}
use Rattle.word_bits.specs.declared.Shift.{Shift as WordShift}
use Rattle.word_bits.specs.declared.Shift.TheVariants as shift
use Rattle.word_bits.specs.Word.{sum_of, shift_of, sign_extended, reversed, reversed_halves, reversed_signed}
use Rattle.thumb_instr.specs.declared.instr.Instr.{Instr}
use Rattle.thumb_instr.specs.declared.instr.Instr.TheVariants as instr
use Rattle.thumb_instr.specs.declared.operation.SumOperation.{SumOperation}
use Rattle.thumb_instr.specs.declared.operation.SumOperation.TheVariants as sum
use Rattle.thumb_instr.specs.declared.operation.Right.{Right}
use Rattle.thumb_instr.specs.declared.operation.Right.TheVariants as right
use Rattle.thumb_instr.specs.declared.operation.Operation.{Operation}
use Rattle.thumb_instr.specs.declared.operation.Operation.TheVariants as operation
use Rattle.thumb_instr.specs.declared.operation.ByteOperation.{ByteOperation}
use Rattle.thumb_instr.specs.declared.operation.ByteOperation.TheVariants as byte
use Rattle.thumb_instr.specs.declared.operation.Extension.{Extension}
use Rattle.thumb_instr.specs.declared.operation.Extension.TheVariants as extension
use Rattle.thumb_instr.specs.declared.operation.Reversal.{Reversal}
use Rattle.thumb_instr.specs.declared.operation.Reversal.TheVariants as reversal
use Rattle.thumb_instr.specs.Window.{Low, named, AreBelow, is_in_window, normal_of}

-- Items: the registers r0 to r12, sp, lr and the flags N, Z, C, V, by number, and what they hold.

-- what each item holds
abbrev pub Values : Type 0
Values = ℕ → ℕ

-- a register holds a word, and a flag 0 or 1
pub record AreWords (v : Values) : Type 0 where
  pub register : (x : ℕ) → x < 15 → v x < 2 ^ 32
  pub flag : (x : ℕ) → 15 ≤ x → v x < 2

-- the values after new ones were given to some items; of two for one item the first counts
abbrev pub assigned : List (ℕ × ℕ) → Values → Values
assigned [] v = v
assigned (o ∷ os) v = λ x. if x == o.0 then o.1 else assigned os v x

-- what a register holds after a word was written to it: the two low bits of sp stay zero
abbrev pub written_to : ℕ → ℕ → ℕ
written_to x word = if x == sp then word / 4 * 4 else word

-- What each instruction that only computes writes, by the ARM manual's pseudocode.

-- N and Z of a result: its highest bit, and whether it is zero
abbrev pub result_flags : ℕ → List (ℕ × ℕ)
result_flags x = (n_flag, bit_at x 31) ∷ (z_flag, from_bool (x == 0)) ∷ []

-- N, Z, C and V of an AddWithCarry
abbrev pub sum_flags : WordSum → List (ℕ × ℕ)
sum_flags s = (n_flag, bit_at s.value 31) ∷ (z_flag, from_bool (s.value == 0)) ∷ (c_flag, from_bool s.c) ∷ (v_flag, from_bool s.v) ∷ []

-- a result goes into d with N and Z, a shift's with C too, and a sum with all four
abbrev pub result_outputs : ℕ → ℕ → List (ℕ × ℕ)
result_outputs d x = (d, x) ∷ result_flags x

abbrev pub shift_outputs : ℕ → ℕ × Bool → List (ℕ × ℕ)
shift_outputs d s = (d, s.0) ∷ (n_flag, bit_at s.0 31) ∷ (z_flag, from_bool (s.0 == 0)) ∷ (c_flag, from_bool s.1) ∷ []

abbrev pub sum_outputs : ℕ → WordSum → List (ℕ × ℕ)
sum_outputs d s = (d, s.value) ∷ sum_flags s

-- NOT(x) of a word
abbrev pub complement : ℕ → ℕ
complement x = 2 ^ 32 - 1 - x

-- ADD and SUB: AddWithCarry(x, y, '0') and AddWithCarry(x, NOT(y), '1')
abbrev pub three_sum : SumOperation → ℕ → ℕ → WordSum
three_sum sum.Add x y = sum_of x y false
three_sum sum.Sub x y = sum_of x (complement y) true

-- the low 32 bits of a product: MUL
abbrev pub product : ℕ → ℕ → ℕ
product x y = (x * y) % 2 ^ 32

-- LSR and ASR
abbrev pub right_shift : Right → WordShift
right_shift right.Lsr = shift.Lsr
right_shift right.Asr = shift.Asr

-- SignExtend and ZeroExtend of the low halfword and byte
abbrev pub extension_of : Extension → ℕ → ℕ
extension_of extension.Sxth x = sign_extended x 16
extension_of extension.Sxtb x = sign_extended x 8
extension_of extension.Uxth x = x % 2 ^ 16
extension_of extension.Uxtb x = x % 2 ^ 8

-- REV, REV16 and REVSH
abbrev pub reversal_of : Reversal → ℕ → ℕ
reversal_of reversal.Rev x = reversed x
reversal_of reversal.Rev16 x = reversed_halves x
reversal_of reversal.Revsh x = reversed_signed x

-- an operation on the values x of its target d and y of the other register, with the carry c; shifts go by the low byte of y
abbrev pub two_outputs : Operation → ℕ → ℕ → ℕ → ℕ → List (ℕ × ℕ)
two_outputs operation.And d x y c = result_outputs d (bit_and x y)
two_outputs operation.Eor d x y c = result_outputs d (bit_xor x y)
two_outputs operation.Lsl d x y c = shift_outputs d (shift_of shift.Lsl x (y % 256) (c == 1))
two_outputs operation.Lsr d x y c = shift_outputs d (shift_of shift.Lsr x (y % 256) (c == 1))
two_outputs operation.Asr d x y c = shift_outputs d (shift_of shift.Asr x (y % 256) (c == 1))
two_outputs operation.Adc d x y c = sum_outputs d (sum_of x y (c == 1))
two_outputs operation.Sbc d x y c = sum_outputs d (sum_of x (complement y) (c == 1))
two_outputs operation.Ror d x y c = shift_outputs d (shift_of shift.Ror x (y % 256) (c == 1))
two_outputs operation.Tst d x y c = result_flags (bit_and x y)
two_outputs operation.Rsb d x y c = sum_outputs d (sum_of (complement y) 0 true)
two_outputs operation.Cmp d x y c = sum_flags (three_sum sum.Sub x y)
two_outputs operation.Cmn d x y c = sum_flags (three_sum sum.Add x y)
two_outputs operation.Orr d x y c = result_outputs d (bit_or x y)
two_outputs operation.Mul d x y c = result_outputs d (product y x)
two_outputs operation.Bic d x y c = result_outputs d (bit_and x (complement y))
two_outputs operation.Mvn d x y c = result_outputs d (complement y)

-- an operation on the value x of its target d and a number
abbrev pub byte_outputs : ByteOperation → ℕ → ℕ → ℕ → List (ℕ × ℕ)
byte_outputs byte.Mov d x n = result_outputs d n
byte_outputs byte.Cmp d x n = sum_flags (three_sum sum.Sub x n)
byte_outputs byte.Add d x n = sum_outputs d (three_sum sum.Add x n)
byte_outputs byte.Sub d x n = sum_outputs d (three_sum sum.Sub x n)

-- the items that an instruction on registers and flags alone writes, with their new values; an immediate shift, never by 0, needs no carry
abbrev pub outputs : Instr → Values → List (ℕ × ℕ)
outputs (instr.Mov d m) v = (d.number, written_to d.number (v m.number)) ∷ []
outputs (instr.Three s d n m) v = sum_outputs d.number (three_sum s (v n.number) (v m.number))
outputs (instr.Two o d m) v = two_outputs o d.number (v d.number) (v m.number) (v c_flag)
outputs (instr.Movs d m) v = result_outputs d.number (v m.number)
outputs (instr.ShiftLeft d m i) v = shift_outputs d.number (shift_of shift.Lsl (v m.number) i.number false)
outputs (instr.ShiftRight s d m i) v = shift_outputs d.number (shift_of (right_shift s) (v m.number) i.number false)
outputs (instr.ThreeNumber s d n i) v = sum_outputs d.number (three_sum s (v n.number) i.number)
outputs (instr.TwoNumber o d i) v = byte_outputs o d.number (v d.number) i.number
outputs (instr.Add r) v = (r.target.number, written_to r.target.number (three_sum sum.Add (v r.target.number) (v r.source.number)).value) ∷ []
outputs (instr.Compare r) v = sum_flags (three_sum sum.Sub (v r.left.number) (v r.right.number))
outputs (instr.StackAddress d i) v = (d.number, (three_sum sum.Add (v sp) (4 * i.number)).value) ∷ []
outputs (instr.StackMove s i) v = (sp, written_to sp (three_sum s (v sp) (4 * i.number)).value) ∷ []
outputs (instr.Extend e d m) v = (d.number, extension_of e (v m.number)) ∷ []
outputs (instr.Reverse r d m) v = (d.number, reversal_of r (v m.number)) ∷ []
outputs i v = []

-- the values after an instruction, and after several
abbrev pub after : Instr → Values → Values
after i v = assigned (outputs i v) v

abbrev pub after_all : List Instr → Values → Values
after_all [] v = v
after_all (i ∷ is) v = after_all is (after i v)

-- Sequences of window instructions: what they name, and when two of them are equal on a mask.

-- from every state, each item of the mask is the same after both
abbrev pub Equal : List Instr → List Instr → List ℕ → Type 0
Equal left right mask = (v : Values) → AreWords v → (x : ℕ) → one_of x mask ≡ true → after_all left v x ≡ after_all right v x

-- no two of the registers are the same
pub record IsOneToOne (registers : List Low) : Type 0 where
  pub distinct : (j k : ℕ) (r : Low) → slice_get registers j ≡ Some r → (s : Low) → slice_get registers k ≡ Some s → r.number ≡ s.number → j ≡ k

-- each instruction may stand in a window, and names registers below k alone
abbrev pub AreOver : ℕ → List Instr → Type 0
AreOver k [] = Unit {0}
AreOver k (i ∷ is) = (is_in_window i ≡ true) × AreBelow k (named i) × AreOver k is

-- whether some instruction names the register
abbrev pub is_named : ℕ → List Instr → Bool
is_named x [] = false
is_named x (i ∷ is) = one_of x (named i) || is_named x is

-- the least number above all registers that instructions name: how many they name, if they leave out none below the greatest
abbrev pub above : List ℕ → ℕ
above [] = 0
above (x ∷ xs) = max (x + 1) (above xs)

abbrev pub register_count : List Instr → ℕ
register_count [] = 0
register_count (i ∷ is) = max (above (named i)) (register_count is)

-- the instruction that stands for both encodings of one effect
abbrev pub normalised : Instr → Instr
normalised i = normal_of i
