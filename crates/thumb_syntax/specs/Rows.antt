-- The list of all forms, and what a text is read as by them.
use Rattle.std.specs.Prelude.{ℕ, List, [], ◌∷◌, ◌++◌, Option, None, codes, map, flat_map, if◌then◌else◌, option_map, option_and_then}
use Rattle.thumb_instr.specs.declared.operation.SumOperation.TheVariants as sum
use Rattle.thumb_instr.specs.declared.operation.Right.TheVariants as right
use Rattle.thumb_instr.specs.declared.operation.ByteOperation.TheVariants as byte
use Rattle.thumb_instr.specs.declared.operation.Operation.TheVariants as operation
use Rattle.thumb_instr.specs.declared.operation.Extension.TheVariants as extension
use Rattle.thumb_instr.specs.declared.operation.Reversal.TheVariants as reversal
use Rattle.thumb_instr.specs.declared.operation.Access.TheVariants as access
use Rattle.thumb_instr.specs.declared.operation.OffsetAccess.TheVariants as offset
use Rattle.thumb_instr.specs.declared.operation.WordAccess.TheVariants as word
use Rattle.thumb_instr.specs.declared.operation.Condition.TheVariants as condition
use Rattle.thumb_instr.specs.declared.operation.HintOperation.TheVariants as hint
use Rattle.thumb_instr.specs.declared.operation.Interrupts.TheVariants as interrupts
use Rattle.thumb_instr.specs.declared.operation.Barrier.TheVariants as barrier
use Rattle.thumb_instr.specs.declared.operation.Special.TheVariants as special
use Rattle.ascii_scan.specs.Tokens.{Token, word as text, mark, tokens}
use Rattle.ascii_scan.specs.Names.{is_spelled}
use Rattle.thumb_syntax.specs.declared.form.Slot.{Slot}
use Rattle.thumb_syntax.specs.declared.form.Slot.TheVariants as slot
use Rattle.thumb_instr.specs.declared.kind.Kind.{Kind}
use Rattle.thumb_instr.specs.declared.kind.Kind.TheVariants as kind
use Rattle.thumb_syntax.specs.Forms.{mnemonic, forms}
use Rattle.thumb_syntax.specs.OperandForms.{first, second, twice, comma, two}
use Rattle.thumb_syntax.specs.Operands.{first_some, or_else, Operand, operand}
use Rattle.thumb_instr.specs.declared.kind.Parts.{Parts}
use Rattle.thumb_instr.specs.Parts.{made, parts_of}
use Rattle.thumb_syntax.specs.Slots.{Fields, empty, filled}
use Rattle.thumb_instr.specs.declared.instr.Instr.{Instr}

pub record Row : Type 0 where
  pub mnemonic : List ℕ
  pub slots : List Slot
  pub kind : Kind

abbrev row : List ℕ → List Slot → Kind → Row
row m ss k = record { mnemonic = m; slots = ss; kind = k }

-- one row for each of these forms of a kind, with this mnemonic
abbrev pub rows_as : List ℕ → List (List Slot) → Kind → List Row
rows_as m forms k = map (λ ss. row m ss k) forms

-- the rows of each kind with the mnemonic that it is written with
abbrev pub own_rows : List Kind → List Row
own_rows ks = flat_map (λ k. rows_as (mnemonic k) (forms k) k) ks

-- operations on registers and numbers
abbrev pub data_kinds : List Kind
data_kinds =
    kind.Movs ∷ kind.ShiftLeft ∷ kind.ShiftRight right.Lsr ∷ kind.ShiftRight right.Asr ∷ kind.Three sum.Add ∷ kind.ThreeNumber sum.Add
    ∷ kind.TwoNumber byte.Add ∷ kind.Three sum.Sub ∷ kind.ThreeNumber sum.Sub ∷ kind.TwoNumber byte.Sub ∷ kind.TwoNumber byte.Mov
    ∷ kind.TwoNumber byte.Cmp ∷ kind.Two operation.And ∷ kind.Two operation.Eor ∷ kind.Two operation.Adc ∷ kind.Two operation.Orr
    ∷ kind.Two operation.Lsl ∷ kind.Two operation.Lsr ∷ kind.Two operation.Asr ∷ kind.Two operation.Sbc ∷ kind.Two operation.Ror
    ∷ kind.Two operation.Bic ∷ kind.Two operation.Tst ∷ kind.Two operation.Cmp ∷ kind.Two operation.Cmn ∷ kind.Two operation.Mvn
    ∷ kind.Two operation.Rsb ∷ kind.Two operation.Mul ∷ kind.Add ∷ kind.Compare ∷ kind.Mov ∷ kind.Extend extension.Sxth
    ∷ kind.Extend extension.Sxtb ∷ kind.Extend extension.Uxth ∷ kind.Extend extension.Uxtb ∷ kind.Reverse reversal.Rev
    ∷ kind.Reverse reversal.Rev16 ∷ kind.Reverse reversal.Revsh ∷ []

-- their rows, with other spellings that are read
unfoldable pub data_rows : List Row
data_rows =
    own_rows data_kinds
    ++ (rows_as (codes "lsls") ((first ∷ comma ∷ second ∷ comma ∷ slot.Exactly 0 ∷ []) ∷ (twice ∷ comma ∷ slot.Exactly 0 ∷ []) ∷ []) kind.Movs
    ++ rows_as (codes "negs") (two ∷ []) (kind.Two operation.Rsb))

-- loads and stores, addresses and the stack
abbrev pub memory_kinds : List Kind
memory_kinds =
    kind.Literal ∷ kind.Address ∷ kind.Indexed access.Str ∷ kind.Indexed access.Strh ∷ kind.Indexed access.Strb ∷ kind.Indexed access.Ldrsb
    ∷ kind.Indexed access.Ldr ∷ kind.Indexed access.Ldrh ∷ kind.Indexed access.Ldrb ∷ kind.Indexed access.Ldrsh ∷ kind.Offset offset.Str
    ∷ kind.Offset offset.Ldr ∷ kind.Offset offset.Strb ∷ kind.Offset offset.Ldrb ∷ kind.Offset offset.Strh ∷ kind.Offset offset.Ldrh
    ∷ kind.Stack word.Str ∷ kind.Stack word.Ldr ∷ kind.StackAddress ∷ kind.StackMove sum.Add ∷ kind.StackMove sum.Sub ∷ kind.Push ∷ kind.Pop
    ∷ kind.StoreMany ∷ kind.LoadMany ∷ []

-- their rows, with other spellings that are read
unfoldable pub memory_rows : List Row
memory_rows =
    own_rows memory_kinds
    ++ (rows_as (codes "stmia") (forms kind.StoreMany) kind.StoreMany
    ++ rows_as (codes "ldmia") (forms kind.LoadMany) kind.LoadMany)

-- branches, hints and instructions for the system
abbrev pub control_kinds : List Kind
control_kinds =
    kind.Bx ∷ kind.Blx ∷ kind.Breakpoint ∷ kind.Service ∷ kind.Hint hint.Nop ∷ kind.Hint hint.Yield ∷ kind.Hint hint.Wfe ∷ kind.Hint hint.Wfi
    ∷ kind.Hint hint.Sev ∷ kind.ChangeState interrupts.Enable ∷ kind.ChangeState interrupts.Disable ∷ kind.BranchIf condition.Eq
    ∷ kind.BranchIf condition.Ne ∷ kind.BranchIf condition.Cs ∷ kind.BranchIf condition.Cc ∷ kind.BranchIf condition.Mi
    ∷ kind.BranchIf condition.Pl ∷ kind.BranchIf condition.Vs ∷ kind.BranchIf condition.Vc ∷ kind.BranchIf condition.Hi
    ∷ kind.BranchIf condition.Ls ∷ kind.BranchIf condition.Ge ∷ kind.BranchIf condition.Lt ∷ kind.BranchIf condition.Gt
    ∷ kind.BranchIf condition.Le ∷ kind.Branch ∷ kind.Call ∷ kind.Barrier barrier.Dsb ∷ kind.Barrier barrier.Dmb ∷ kind.Barrier barrier.Isb
    ∷ kind.ReadSpecial special.Primask ∷ kind.ReadSpecial special.Ipsr ∷ kind.WriteMask ∷ []

-- their rows, with other spellings that are read
unfoldable pub control_rows : List Row
control_rows =
    own_rows control_kinds
    ++ (rows_as (codes "bhs") (forms (kind.BranchIf condition.Cs)) (kind.BranchIf condition.Cs)
    ++ rows_as (codes "blo") (forms (kind.BranchIf condition.Cc)) (kind.BranchIf condition.Cc))

-- an instruction and its label, with the number added to it
pub record Shown : Type 0 where
  pub made : Parts
  pub label : Option (List ℕ × ℕ)

abbrev pub shown_with : Instr → Option (List ℕ × ℕ) → Shown
shown_with i l = record { made = parts_of i; label = l }

abbrev pub with_label : Option (List ℕ × ℕ) → Parts → Shown
with_label l m = record { made = m; label = l }

abbrev pub shown_by : Kind → Fields → Option Shown
shown_by k f = option_map (with_label f.label) (made k f.first f.second f.third)

-- what a mnemonic and operands are read as by a form
abbrev pub read_as : List ℕ → List Operand → Row → Option Shown
read_as w os r = if is_spelled w r.mnemonic then option_and_then (shown_by r.kind) (filled r.slots empty os) else None

abbrev pub read_in : List Row → List ℕ → List Operand → Option Shown
read_in rs w os = first_some (read_as w os) rs

-- what they are read as by the first form that reads them
abbrev pub read_all : List ℕ → List Operand → Option Shown
read_all w os = or_else (read_in data_rows w os) (or_else (read_in memory_rows w os) (read_in control_rows w os))

abbrev pub reading_of : List Token → Option Shown
reading_of [] = None
reading_of (text w ∷ ts) = read_all w (map operand ts)
reading_of (mark m ∷ ts) = None

-- what a text is read as: an instruction and its label, or nothing
abbrev pub reading : List ℕ → Option Shown
reading bytes = reading_of (tokens bytes)
