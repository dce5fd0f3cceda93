-- The circuit of each instruction that may stand in a window: the gates that it adds, and the bits of the registers and flags after it.
use Rattle.std.specs.Prelude.{ℕ, true, false, List, [], ◌∷◌, slice_index_or, slice_set}
use Rattle.word_bits.specs.declared.Shift.{Shift}
use Rattle.word_bits.specs.declared.Shift.TheVariants as shift
use Rattle.thumb_instr.specs.declared.instr.Instr.{Instr}
use Rattle.thumb_instr.specs.declared.instr.Instr.TheVariants as instr
use Rattle.thumb_instr.specs.declared.operation.SumOperation.{SumOperation}
use Rattle.thumb_instr.specs.declared.operation.SumOperation.TheVariants as sum
use Rattle.thumb_instr.specs.declared.operation.Operation.{Operation}
use Rattle.thumb_instr.specs.declared.operation.Operation.TheVariants as operation
use Rattle.thumb_instr.specs.declared.operation.ByteOperation.{ByteOperation}
use Rattle.thumb_instr.specs.declared.operation.ByteOperation.TheVariants as byte
use Rattle.thumb_model.specs.Effect.{right_shift}
use Rattle.cnf_gates.specs.declared.bit.Bit.{Bit}
use Rattle.cnf_gates.specs.declared.bit.Bit.TheVariants.{Constant}
use Rattle.cnf_gates.specs.Gates.{Built}
use Rattle.bit_blast.specs.declared.circuits.Connective.{Connective}
use Rattle.bit_blast.specs.declared.circuits.Connective.TheVariants.{And, Or, Xor}
use Rattle.bit_blast.specs.declared.slots.Slot.{Slot}
use Rattle.bit_blast.specs.declared.slots.Slot.TheVariants.{Plain, Hole}
use Rattle.bit_blast.specs.Slots.{slot_target}
use Rattle.bit_blast.specs.Words.{bit_of, filled, constant, inverted, moved, moved_out, extended, turned}
use Rattle.bit_blast.specs.Circuits.{each_of, none_of, add_of, product_from, shift_by, rotate_by}

-- the bits of the registers and flags
pub record Bits : Type 0 where
  pub r : List (List Bit)
  pub n : Bit
  pub z : Bit
  pub c : Bit
  pub v : Bit

-- the outcome of an instruction: the bits of its target and the flags after it
pub record ResultBits : Type 0 where
  pub value : List Bit
  pub n : Bit
  pub z : Bit
  pub c : Bit
  pub v : Bit

-- a register's bits
abbrev pub word : List (List Bit) → ℕ → List Bit
word rs i = slice_index_or rs i []

-- ---- parts that several instructions share

-- a result with N and Z computed from the value, and the given C and V: N is the highest bit, and the gates of Z come after those of the value
abbrev pub result_of : Built → List Bit → Bit → Bit → Built × ResultBits
result_of b value c v =
    let z = none_of b value (Constant true) in
    (z.0, record { value = value; n = bit_of value 31; z = z.1; c = c; v = v })

-- a sum that sets all four flags
abbrev pub summed : Built → List Bit → List Bit → Bit → Built × ResultBits
summed b x y c =
    let s = add_of b x y c in
    result_of s.0 s.1.value s.1.carry s.1.overflow

-- a bitwise operation, a shift and a rotation by a register, and a product, each with the flags that it sets
abbrev pub joined_of : Connective → Built → List Bit → List Bit → Bits → Built × ResultBits
joined_of gate b x y s = let r = each_of gate b x y in result_of r.0 r.1 s.c s.v

abbrev pub shifted_of : Shift → Built → List Bit → List Bit → Bits → Built × ResultBits
shifted_of kind b x y s = let r = shift_by kind b y (record { value = x; carry = s.c }) in result_of r.0 r.1.value r.1.carry s.v

abbrev pub rotated_of : Built → List Bit → List Bit → Bits → Built × ResultBits
rotated_of b x y s = let r = rotate_by b y (record { value = x; carry = s.c }) in result_of r.0 r.1.value r.1.carry s.v

abbrev pub multiplied_of : Built → List Bit → List Bit → Bits → Built × ResultBits
multiplied_of b x y s = let r = product_from b 0 x y (filled (Constant false)) in result_of r.0 r.1 s.c s.v

-- a result that leaves the flags unchanged
abbrev pub unflagged : List Bit → Bits → ResultBits
unflagged value s = record { value = value; n = s.n; z = s.z; c = s.c; v = s.v }

-- an outcome of which only the flags are written: the target keeps its bits x
abbrev pub flags_alone : List Bit → Built × ResultBits → Built × ResultBits
flags_alone x r = (r.0, record r.1 { value = x })

-- ---- by operation

abbrev pub three_of : SumOperation → Built → List Bit → List Bit → Built × ResultBits
three_of sum.Add b x y = summed b x y (Constant false)
three_of sum.Sub b x y = summed b x (inverted y) (Constant true)

-- x holds the bits of the target and y those of the other register
abbrev pub two_of : Operation → Built → List Bit → List Bit → Bits → Built × ResultBits
two_of operation.And b x y s = joined_of And b x y s
two_of operation.Eor b x y s = joined_of Xor b x y s
two_of operation.Lsl b x y s = shifted_of shift.Lsl b x y s
two_of operation.Lsr b x y s = shifted_of shift.Lsr b x y s
two_of operation.Asr b x y s = shifted_of shift.Asr b x y s
two_of operation.Adc b x y s = summed b x y s.c
two_of operation.Sbc b x y s = summed b x (inverted y) s.c
two_of operation.Ror b x y s = rotated_of b x y s
two_of operation.Tst b x y s = flags_alone x (joined_of And b x y s)
two_of operation.Rsb b x y s = summed b (inverted y) (filled (Constant false)) (Constant true)
two_of operation.Cmp b x y s = flags_alone x (three_of sum.Sub b x y)
two_of operation.Cmn b x y s = flags_alone x (three_of sum.Add b x y)
two_of operation.Orr b x y s = joined_of Or b x y s
two_of operation.Mul b x y s = multiplied_of b x y s
two_of operation.Bic b x y s = joined_of And b x (inverted y) s
two_of operation.Mvn b x y s = result_of b (inverted y) s.c s.v

-- x holds the bits of the target and n those of the 8-bit number
abbrev pub byte_of : ByteOperation → Built → List Bit → List Bit → Bits → Built × ResultBits
byte_of byte.Mov b x n s = result_of b n s.c s.v
byte_of byte.Cmp b x n s = flags_alone x (three_of sum.Sub b x n)
byte_of byte.Add b x n s = three_of sum.Add b x n
byte_of byte.Sub b x n s = three_of sum.Sub b x n

-- a shift by a number of places, which isn't 0
abbrev pub number_shift : Shift → Built → List Bit → ℕ → Bits → Built × ResultBits
number_shift kind b x n s = result_of b (moved kind n x) (moved_out kind n x) s.v

-- ---- by instruction

abbrev pub outcome_of : Built → Instr → Bits → Built × ResultBits
outcome_of b (instr.Mov d m) s = (b, unflagged (word s.r m.number) s)
outcome_of b (instr.Three o d n m) s = three_of o b (word s.r n.number) (word s.r m.number)
outcome_of b (instr.Two o d m) s = two_of o b (word s.r d.number) (word s.r m.number) s
outcome_of b (instr.Movs d m) s = result_of b (word s.r m.number) s.c s.v
outcome_of b (instr.ShiftLeft d m i) s = number_shift shift.Lsl b (word s.r m.number) i.number s
outcome_of b (instr.ShiftRight o d m i) s = number_shift (right_shift o) b (word s.r m.number) i.number s
outcome_of b (instr.ThreeNumber o d n i) s = three_of o b (word s.r n.number) (constant i.number)
outcome_of b (instr.TwoNumber o d i) s = byte_of o b (word s.r d.number) (constant i.number) s
outcome_of b (instr.Add r) s = let a = add_of b (word s.r r.target.number) (word s.r r.source.number) (Constant false) in (a.0, unflagged a.1.value s)
outcome_of b (instr.Extend e d m) s = (b, unflagged (extended e (word s.r m.number)) s)
outcome_of b (instr.Reverse r d m) s = (b, unflagged (turned r (word s.r m.number)) s)
outcome_of b i s = (b, unflagged (word s.r 0) s)

-- the bits with an outcome written
abbrev pub written : ℕ → ResultBits → Bits → Bits
written d o s = record { r = slice_set s.r d o.value; n = o.n; z = o.z; c = o.c; v = o.v }

-- ---- by slot, where w are the bits of the symbol's value

abbrev pub slot_outcome : List Bit → Built → Slot → Bits → Built × ResultBits
slot_outcome w b (Plain i) s = outcome_of b i s
slot_outcome w b (Hole o d) s = byte_of o b (word s.r d.number) w s

-- the bits after a slot, and after several
abbrev pub formed : List Bit → Built → Slot → Bits → Built × Bits
formed w b x s = let o = slot_outcome w b x s in (o.0, written (slot_target x) o.1 s)

abbrev pub formed_all : List Bit → Built → List Slot → Bits → Built × Bits
formed_all w b [] s = (b, s)
formed_all w b (x ∷ xs) s = let r = formed w b x s in formed_all w r.0 xs r.1
