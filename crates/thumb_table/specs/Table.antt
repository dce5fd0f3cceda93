-- The encodings as in the Arm manual's section on the Thumb instruction set encoding: a row is a list of pieces, from the highest bit.
use Rattle.std.specs.Prelude.{ℕ, ◌+◌, ◌*◌, ◌/◌, ◌%◌, ◌^◌, ◌==◌, List, [], ◌∷◌, if◌then◌else◌, ◌≡◌}
use Rattle.thumb_instr.specs.declared.kind.Parts.{Parts}
use Rattle.thumb_table.specs.declared.row.OperandPosition.{OperandPosition}
use Rattle.thumb_table.specs.declared.row.OperandPosition.TheVariants as position
use Rattle.thumb_table.specs.declared.row.Piece.{Piece}
use Rattle.thumb_table.specs.declared.row.Piece.TheVariants.{Fixed, Bits, Amount, Same}
use Rattle.thumb_instr.specs.declared.instr.Instr.{Instr}
use Rattle.thumb_instr.specs.declared.kind.Kind.{Kind}
use Rattle.thumb_instr.specs.declared.kind.Kind.TheVariants as kind
use Rattle.thumb_instr.specs.declared.operation.Right.TheVariants as right
use Rattle.thumb_instr.specs.declared.operation.SumOperation.TheVariants as sum
use Rattle.thumb_instr.specs.declared.operation.ByteOperation.TheVariants as byte
use Rattle.thumb_instr.specs.declared.operation.Operation.TheVariants as operation
use Rattle.thumb_instr.specs.declared.operation.Access.TheVariants as access
use Rattle.thumb_instr.specs.declared.operation.OffsetAccess.TheVariants as offset
use Rattle.thumb_instr.specs.declared.operation.WordAccess.TheVariants as word
use Rattle.thumb_instr.specs.declared.operation.Extension.TheVariants as extension
use Rattle.thumb_instr.specs.declared.operation.Interrupts.TheVariants as interrupts
use Rattle.thumb_instr.specs.declared.operation.Reversal.TheVariants as reversal
use Rattle.thumb_instr.specs.declared.operation.HintOperation.TheVariants as hint
use Rattle.thumb_instr.specs.declared.operation.Condition.TheVariants as condition
use Rattle.thumb_instr.specs.declared.operation.Barrier.TheVariants as barrier
use Rattle.thumb_instr.specs.declared.operation.Special.TheVariants as special
use Rattle.thumb_instr.specs.Parts.{parts_of}

-- the width in bits of a piece, and of a row
abbrev pub width_of : Piece → ℕ
width_of (Fixed w x) = w
width_of (Bits w o from least) = w
width_of (Amount w o) = w
width_of (Same o a b) = 1

abbrev pub width : List Piece → ℕ
width [] = 0
width (p ∷ ps) = width_of p + width ps

-- a register or number of an instruction
abbrev pub number : OperandPosition → Parts → ℕ
number position.First m = m.first
number position.Second m = m.second
number position.Third m = m.third

-- 1 where two bits are equal: NOT(a EOR b)
abbrev pub same : ℕ → ℕ → ℕ
same a b = if a == b then 1 else 0

-- the value of a piece in the code of an instruction
abbrev pub value_of : Piece → Parts → ℕ
value_of (Fixed w x) m = x
value_of (Bits w o from least) m = number o m / 2 ^ from % 2 ^ w
value_of (Amount w o) m = number o m % 2 ^ w
value_of (Same o a b) m = same (number o m / 2 ^ a % 2) (number o m / 2 ^ b % 2)

-- the number that the pieces form for an instruction
unfoldable pub packed : List Piece → Parts → ℕ
packed [] m = 0
packed (p ∷ ps) m = value_of p m * 2 ^ width ps + packed ps m

-- ---- the rows ----

-- a low register, and the highest bit of a register where the encoding keeps it apart
abbrev first : Piece
first = Bits 3 position.First 0 0

abbrev second : Piece
second = Bits 3 position.Second 0 0

abbrev third : Piece
third = Bits 3 position.Third 0 0

abbrev high : Piece
high = Bits 1 position.First 3 0

-- the rows, each from its highest bit: fixed bits, and those of its registers and numbers.
-- BL has the 24 bits S:I1:I2:imm10:imm11 of half its distance as S, imm10, J1, J2 and imm11, where I1 = NOT(J1 EOR S) and I2 = NOT(J2 EOR S)
unfoldable pub pieces : Kind → List Piece
pieces kind.Movs = Fixed 10 0b0000000000 ∷ second ∷ first ∷ []
pieces kind.ShiftLeft = Fixed 5 0b00000 ∷ Bits 5 position.Third 0 1 ∷ second ∷ first ∷ []
pieces (kind.ShiftRight right.Lsr) = Fixed 5 0b00001 ∷ Amount 5 position.Third ∷ second ∷ first ∷ []
pieces (kind.ShiftRight right.Asr) = Fixed 5 0b00010 ∷ Amount 5 position.Third ∷ second ∷ first ∷ []
pieces (kind.Three sum.Add) = Fixed 7 0b000110_0 ∷ third ∷ second ∷ first ∷ []
pieces (kind.Three sum.Sub) = Fixed 7 0b000110_1 ∷ third ∷ second ∷ first ∷ []
pieces (kind.ThreeNumber sum.Add) = Fixed 7 0b000111_0 ∷ third ∷ second ∷ first ∷ []
pieces (kind.ThreeNumber sum.Sub) = Fixed 7 0b000111_1 ∷ third ∷ second ∷ first ∷ []
pieces (kind.TwoNumber byte.Mov) = Fixed 5 0b00100 ∷ first ∷ Bits 8 position.Second 0 0 ∷ []
pieces (kind.TwoNumber byte.Cmp) = Fixed 5 0b00101 ∷ first ∷ Bits 8 position.Second 0 0 ∷ []
pieces (kind.TwoNumber byte.Add) = Fixed 5 0b00110 ∷ first ∷ Bits 8 position.Second 0 0 ∷ []
pieces (kind.TwoNumber byte.Sub) = Fixed 5 0b00111 ∷ first ∷ Bits 8 position.Second 0 0 ∷ []
pieces (kind.Two operation.And) = Fixed 10 0b010000_0000 ∷ second ∷ first ∷ []
pieces (kind.Two operation.Eor) = Fixed 10 0b010000_0001 ∷ second ∷ first ∷ []
pieces (kind.Two operation.Lsl) = Fixed 10 0b010000_0010 ∷ second ∷ first ∷ []
pieces (kind.Two operation.Lsr) = Fixed 10 0b010000_0011 ∷ second ∷ first ∷ []
pieces (kind.Two operation.Asr) = Fixed 10 0b010000_0100 ∷ second ∷ first ∷ []
pieces (kind.Two operation.Adc) = Fixed 10 0b010000_0101 ∷ second ∷ first ∷ []
pieces (kind.Two operation.Sbc) = Fixed 10 0b010000_0110 ∷ second ∷ first ∷ []
pieces (kind.Two operation.Ror) = Fixed 10 0b010000_0111 ∷ second ∷ first ∷ []
pieces (kind.Two operation.Tst) = Fixed 10 0b010000_1000 ∷ second ∷ first ∷ []
pieces (kind.Two operation.Rsb) = Fixed 10 0b010000_1001 ∷ second ∷ first ∷ []
pieces (kind.Two operation.Cmp) = Fixed 10 0b010000_1010 ∷ second ∷ first ∷ []
pieces (kind.Two operation.Cmn) = Fixed 10 0b010000_1011 ∷ second ∷ first ∷ []
pieces (kind.Two operation.Orr) = Fixed 10 0b010000_1100 ∷ second ∷ first ∷ []
pieces (kind.Two operation.Mul) = Fixed 10 0b010000_1101 ∷ second ∷ first ∷ []
pieces (kind.Two operation.Bic) = Fixed 10 0b010000_1110 ∷ second ∷ first ∷ []
pieces (kind.Two operation.Mvn) = Fixed 10 0b010000_1111 ∷ second ∷ first ∷ []
pieces kind.Add = Fixed 8 0b01000100 ∷ high ∷ Bits 4 position.Second 0 0 ∷ first ∷ []
pieces kind.Compare = Fixed 8 0b01000101 ∷ high ∷ Bits 4 position.Second 0 0 ∷ first ∷ []
pieces kind.Mov = Fixed 8 0b01000110 ∷ high ∷ Bits 4 position.Second 0 0 ∷ first ∷ []
pieces kind.Bx = Fixed 9 0b010001110 ∷ Bits 4 position.First 0 0 ∷ Fixed 3 0b000 ∷ []
pieces kind.Blx = Fixed 9 0b010001111 ∷ Bits 4 position.First 0 0 ∷ Fixed 3 0b000 ∷ []
pieces kind.Literal = Fixed 5 0b01001 ∷ first ∷ Bits 8 position.Second 0 0 ∷ []
pieces (kind.Indexed access.Str) = Fixed 7 0b0101_000 ∷ third ∷ second ∷ first ∷ []
pieces (kind.Indexed access.Strh) = Fixed 7 0b0101_001 ∷ third ∷ second ∷ first ∷ []
pieces (kind.Indexed access.Strb) = Fixed 7 0b0101_010 ∷ third ∷ second ∷ first ∷ []
pieces (kind.Indexed access.Ldrsb) = Fixed 7 0b0101_011 ∷ third ∷ second ∷ first ∷ []
pieces (kind.Indexed access.Ldr) = Fixed 7 0b0101_100 ∷ third ∷ second ∷ first ∷ []
pieces (kind.Indexed access.Ldrh) = Fixed 7 0b0101_101 ∷ third ∷ second ∷ first ∷ []
pieces (kind.Indexed access.Ldrb) = Fixed 7 0b0101_110 ∷ third ∷ second ∷ first ∷ []
pieces (kind.Indexed access.Ldrsh) = Fixed 7 0b0101_111 ∷ third ∷ second ∷ first ∷ []
pieces (kind.Offset offset.Str) = Fixed 5 0b01100 ∷ Bits 5 position.Third 0 0 ∷ second ∷ first ∷ []
pieces (kind.Offset offset.Ldr) = Fixed 5 0b01101 ∷ Bits 5 position.Third 0 0 ∷ second ∷ first ∷ []
pieces (kind.Offset offset.Strb) = Fixed 5 0b01110 ∷ Bits 5 position.Third 0 0 ∷ second ∷ first ∷ []
pieces (kind.Offset offset.Ldrb) = Fixed 5 0b01111 ∷ Bits 5 position.Third 0 0 ∷ second ∷ first ∷ []
pieces (kind.Offset offset.Strh) = Fixed 5 0b10000 ∷ Bits 5 position.Third 0 0 ∷ second ∷ first ∷ []
pieces (kind.Offset offset.Ldrh) = Fixed 5 0b10001 ∷ Bits 5 position.Third 0 0 ∷ second ∷ first ∷ []
pieces (kind.Stack word.Str) = Fixed 5 0b10010 ∷ first ∷ Bits 8 position.Second 0 0 ∷ []
pieces (kind.Stack word.Ldr) = Fixed 5 0b10011 ∷ first ∷ Bits 8 position.Second 0 0 ∷ []
pieces kind.Address = Fixed 5 0b10100 ∷ first ∷ Bits 8 position.Second 0 0 ∷ []
pieces kind.StackAddress = Fixed 5 0b10101 ∷ first ∷ Bits 8 position.Second 0 0 ∷ []
pieces (kind.StackMove sum.Add) = Fixed 9 0b10110000_0 ∷ Bits 7 position.First 0 0 ∷ []
pieces (kind.StackMove sum.Sub) = Fixed 9 0b10110000_1 ∷ Bits 7 position.First 0 0 ∷ []
pieces (kind.Extend extension.Sxth) = Fixed 10 0b10110010_00 ∷ second ∷ first ∷ []
pieces (kind.Extend extension.Sxtb) = Fixed 10 0b10110010_01 ∷ second ∷ first ∷ []
pieces (kind.Extend extension.Uxth) = Fixed 10 0b10110010_10 ∷ second ∷ first ∷ []
pieces (kind.Extend extension.Uxtb) = Fixed 10 0b10110010_11 ∷ second ∷ first ∷ []
pieces kind.Push = Fixed 7 0b1011010 ∷ Bits 9 position.First 0 0 ∷ []
pieces (kind.ChangeState interrupts.Enable) = Fixed 16 0b10110110011_0_0010 ∷ []
pieces (kind.ChangeState interrupts.Disable) = Fixed 16 0b10110110011_1_0010 ∷ []
pieces (kind.Reverse reversal.Rev) = Fixed 10 0b10111010_00 ∷ second ∷ first ∷ []
pieces (kind.Reverse reversal.Rev16) = Fixed 10 0b10111010_01 ∷ second ∷ first ∷ []
pieces (kind.Reverse reversal.Revsh) = Fixed 10 0b10111010_11 ∷ second ∷ first ∷ []
pieces kind.Pop = Fixed 7 0b1011110 ∷ Bits 9 position.First 0 0 ∷ []
pieces kind.Breakpoint = Fixed 8 0b10111110 ∷ Bits 8 position.First 0 0 ∷ []
pieces (kind.Hint hint.Nop) = Fixed 16 0b10111111_0000_0000 ∷ []
pieces (kind.Hint hint.Yield) = Fixed 16 0b10111111_0001_0000 ∷ []
pieces (kind.Hint hint.Wfe) = Fixed 16 0b10111111_0010_0000 ∷ []
pieces (kind.Hint hint.Wfi) = Fixed 16 0b10111111_0011_0000 ∷ []
pieces (kind.Hint hint.Sev) = Fixed 16 0b10111111_0100_0000 ∷ []
pieces kind.StoreMany = Fixed 5 0b11000 ∷ first ∷ Bits 8 position.Second 0 0 ∷ []
pieces kind.LoadMany = Fixed 5 0b11001 ∷ first ∷ Bits 8 position.Second 0 0 ∷ []
pieces (kind.BranchIf condition.Eq) = Fixed 8 0b1101_0000 ∷ Bits 8 position.First 0 0 ∷ []
pieces (kind.BranchIf condition.Ne) = Fixed 8 0b1101_0001 ∷ Bits 8 position.First 0 0 ∷ []
pieces (kind.BranchIf condition.Cs) = Fixed 8 0b1101_0010 ∷ Bits 8 position.First 0 0 ∷ []
pieces (kind.BranchIf condition.Cc) = Fixed 8 0b1101_0011 ∷ Bits 8 position.First 0 0 ∷ []
pieces (kind.BranchIf condition.Mi) = Fixed 8 0b1101_0100 ∷ Bits 8 position.First 0 0 ∷ []
pieces (kind.BranchIf condition.Pl) = Fixed 8 0b1101_0101 ∷ Bits 8 position.First 0 0 ∷ []
pieces (kind.BranchIf condition.Vs) = Fixed 8 0b1101_0110 ∷ Bits 8 position.First 0 0 ∷ []
pieces (kind.BranchIf condition.Vc) = Fixed 8 0b1101_0111 ∷ Bits 8 position.First 0 0 ∷ []
pieces (kind.BranchIf condition.Hi) = Fixed 8 0b1101_1000 ∷ Bits 8 position.First 0 0 ∷ []
pieces (kind.BranchIf condition.Ls) = Fixed 8 0b1101_1001 ∷ Bits 8 position.First 0 0 ∷ []
pieces (kind.BranchIf condition.Ge) = Fixed 8 0b1101_1010 ∷ Bits 8 position.First 0 0 ∷ []
pieces (kind.BranchIf condition.Lt) = Fixed 8 0b1101_1011 ∷ Bits 8 position.First 0 0 ∷ []
pieces (kind.BranchIf condition.Gt) = Fixed 8 0b1101_1100 ∷ Bits 8 position.First 0 0 ∷ []
pieces (kind.BranchIf condition.Le) = Fixed 8 0b1101_1101 ∷ Bits 8 position.First 0 0 ∷ []
pieces kind.Service = Fixed 8 0b11011111 ∷ Bits 8 position.First 0 0 ∷ []
pieces kind.Branch = Fixed 5 0b11100 ∷ Bits 11 position.First 0 0 ∷ []
pieces kind.Call = Fixed 5 0b11110 ∷ Bits 1 position.First 23 0 ∷ Bits 10 position.First 11 0 ∷ Fixed 2 0b11 ∷ Same position.First 22 23 ∷ Fixed 1 0b1 ∷ Same position.First 21 23 ∷ Bits 11 position.First 0 0 ∷ []
pieces (kind.Barrier barrier.Dsb) = Fixed 16 0xF3BF ∷ Fixed 16 0b10001111_0100_1111 ∷ []
pieces (kind.Barrier barrier.Dmb) = Fixed 16 0xF3BF ∷ Fixed 16 0b10001111_0101_1111 ∷ []
pieces (kind.Barrier barrier.Isb) = Fixed 16 0xF3BF ∷ Fixed 16 0b10001111_0110_1111 ∷ []
pieces (kind.ReadSpecial special.Primask) = Fixed 16 0xF3EF ∷ Fixed 4 0b1000 ∷ Bits 4 position.First 0 0 ∷ Fixed 8 0b00010000 ∷ []
pieces (kind.ReadSpecial special.Ipsr) = Fixed 16 0xF3EF ∷ Fixed 4 0b1000 ∷ Bits 4 position.First 0 0 ∷ Fixed 8 0b00000101 ∷ []
pieces kind.WriteMask = Fixed 12 0b111100111000 ∷ Bits 4 position.First 0 0 ∷ Fixed 16 0x8810 ∷ []

-- the row of an instruction, and the number that it forms
abbrev pub row_of : Instr → List Piece
row_of i = pieces (parts_of i).kind

abbrev pub code_of : Instr → ℕ
code_of i = packed (row_of i) (parts_of i)

-- a row's bits in two halfwords: a row of 16 bits has only the first
abbrev pub whole : List Piece → ℕ → ℕ → ℕ
whole ps first second = if width ps == 16 then first else first * 65536 + second

-- the halfwords encode the instruction, which may need only the first
pub record Encodes (i : Instr) (first second : ℕ) : Type 0 where
  pub is : code_of i ≡ whole (row_of i) first second
