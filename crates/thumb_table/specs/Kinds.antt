-- The kinds of instructions grouped by the upper four bits of their codes, so that decoding tries only a few rows.
use Rattle.std.specs.Prelude.{ℕ, List, [], ◌∷◌, slice_index_or}
use Rattle.thumb_instr.specs.declared.kind.Kind.{Kind}
use Rattle.thumb_instr.specs.declared.kind.Kind.TheVariants as kind
use Rattle.thumb_instr.specs.declared.operation.Right.TheVariants as right
use Rattle.thumb_instr.specs.declared.operation.SumOperation.TheVariants as sum
use Rattle.thumb_instr.specs.declared.operation.ByteOperation.TheVariants as byte
use Rattle.thumb_instr.specs.declared.operation.Operation.TheVariants as operation
use Rattle.thumb_instr.specs.declared.operation.Access.TheVariants as access
use Rattle.thumb_instr.specs.declared.operation.OffsetAccess.TheVariants as offset
use Rattle.thumb_instr.specs.declared.operation.WordAccess.TheVariants as word
use Rattle.thumb_instr.specs.declared.operation.Extension.TheVariants as extension
use Rattle.thumb_instr.specs.declared.operation.Interrupts.TheVariants as interrupts
use Rattle.thumb_instr.specs.declared.operation.Reversal.TheVariants as reversal
use Rattle.thumb_instr.specs.declared.operation.HintOperation.TheVariants as hint
use Rattle.thumb_instr.specs.declared.operation.Condition.TheVariants as condition
use Rattle.thumb_instr.specs.declared.operation.Barrier.TheVariants as barrier
use Rattle.thumb_instr.specs.declared.operation.Special.TheVariants as special

-- at each index the kinds whose codes begin with these four bits
unfoldable pub kinds : List (List Kind)
kinds =
    (kind.Movs
    ∷ kind.ShiftLeft
    ∷ kind.ShiftRight right.Lsr
    ∷ [])
    ∷ (kind.ShiftRight right.Asr
    ∷ kind.Three sum.Add
    ∷ kind.Three sum.Sub
    ∷ kind.ThreeNumber sum.Add
    ∷ kind.ThreeNumber sum.Sub
    ∷ [])
    ∷ (kind.TwoNumber byte.Mov
    ∷ kind.TwoNumber byte.Cmp
    ∷ [])
    ∷ (kind.TwoNumber byte.Add
    ∷ kind.TwoNumber byte.Sub
    ∷ [])
    ∷ (kind.Two operation.And
    ∷ kind.Two operation.Eor
    ∷ kind.Two operation.Lsl
    ∷ kind.Two operation.Lsr
    ∷ kind.Two operation.Asr
    ∷ kind.Two operation.Adc
    ∷ kind.Two operation.Sbc
    ∷ kind.Two operation.Ror
    ∷ kind.Two operation.Tst
    ∷ kind.Two operation.Rsb
    ∷ kind.Two operation.Cmp
    ∷ kind.Two operation.Cmn
    ∷ kind.Two operation.Orr
    ∷ kind.Two operation.Mul
    ∷ kind.Two operation.Bic
    ∷ kind.Two operation.Mvn
    ∷ kind.Add
    ∷ kind.Compare
    ∷ kind.Mov
    ∷ kind.Bx
    ∷ kind.Blx
    ∷ kind.Literal
    ∷ [])
    ∷ (kind.Indexed access.Str
    ∷ kind.Indexed access.Strh
    ∷ kind.Indexed access.Strb
    ∷ kind.Indexed access.Ldrsb
    ∷ kind.Indexed access.Ldr
    ∷ kind.Indexed access.Ldrh
    ∷ kind.Indexed access.Ldrb
    ∷ kind.Indexed access.Ldrsh
    ∷ [])
    ∷ (kind.Offset offset.Str
    ∷ kind.Offset offset.Ldr
    ∷ [])
    ∷ (kind.Offset offset.Strb
    ∷ kind.Offset offset.Ldrb
    ∷ [])
    ∷ (kind.Offset offset.Strh
    ∷ kind.Offset offset.Ldrh
    ∷ [])
    ∷ (kind.Stack word.Str
    ∷ kind.Stack word.Ldr
    ∷ [])
    ∷ (kind.Address
    ∷ kind.StackAddress
    ∷ [])
    ∷ (kind.StackMove sum.Add
    ∷ kind.StackMove sum.Sub
    ∷ kind.Extend extension.Sxth
    ∷ kind.Extend extension.Sxtb
    ∷ kind.Extend extension.Uxth
    ∷ kind.Extend extension.Uxtb
    ∷ kind.Push
    ∷ kind.ChangeState interrupts.Enable
    ∷ kind.ChangeState interrupts.Disable
    ∷ kind.Reverse reversal.Rev
    ∷ kind.Reverse reversal.Rev16
    ∷ kind.Reverse reversal.Revsh
    ∷ kind.Pop
    ∷ kind.Breakpoint
    ∷ kind.Hint hint.Nop
    ∷ kind.Hint hint.Yield
    ∷ kind.Hint hint.Wfe
    ∷ kind.Hint hint.Wfi
    ∷ kind.Hint hint.Sev
    ∷ [])
    ∷ (kind.StoreMany
    ∷ kind.LoadMany
    ∷ [])
    ∷ (kind.BranchIf condition.Eq
    ∷ kind.BranchIf condition.Ne
    ∷ kind.BranchIf condition.Cs
    ∷ kind.BranchIf condition.Cc
    ∷ kind.BranchIf condition.Mi
    ∷ kind.BranchIf condition.Pl
    ∷ kind.BranchIf condition.Vs
    ∷ kind.BranchIf condition.Vc
    ∷ kind.BranchIf condition.Hi
    ∷ kind.BranchIf condition.Ls
    ∷ kind.BranchIf condition.Ge
    ∷ kind.BranchIf condition.Lt
    ∷ kind.BranchIf condition.Gt
    ∷ kind.BranchIf condition.Le
    ∷ kind.Service
    ∷ [])
    ∷ (kind.Branch
    ∷ [])
    ∷ (kind.Call
    ∷ kind.Barrier barrier.Dsb
    ∷ kind.Barrier barrier.Dmb
    ∷ kind.Barrier barrier.Isb
    ∷ kind.ReadSpecial special.Primask
    ∷ kind.ReadSpecial special.Ipsr
    ∷ kind.WriteMask
    ∷ [])
    ∷ []

abbrev pub kinds_at : ℕ → List Kind
kinds_at n = slice_index_or kinds n []
