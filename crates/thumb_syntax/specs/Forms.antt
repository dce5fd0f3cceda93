-- The one table of texts: the mnemonic of each kind of instruction, and the forms that may follow it.
use Rattle.std.specs.Prelude.{ℕ, List, [], ◌∷◌, codes}
use Rattle.thumb_instr.specs.declared.operation.SumOperation.TheVariants as sum
use Rattle.thumb_instr.specs.declared.operation.Right.TheVariants as right
use Rattle.thumb_instr.specs.declared.operation.ByteOperation.TheVariants as byte
use Rattle.thumb_instr.specs.declared.operation.Operation.TheVariants as operation
use Rattle.thumb_instr.specs.declared.operation.Extension.TheVariants as extension
use Rattle.thumb_instr.specs.declared.operation.Reversal.TheVariants as reversal
use Rattle.thumb_instr.specs.declared.operation.Access.TheVariants as access
use Rattle.thumb_instr.specs.declared.operation.OffsetAccess.TheVariants as offset
use Rattle.thumb_instr.specs.declared.operation.WordAccess.TheVariants as word
use Rattle.thumb_instr.specs.declared.operation.Condition.TheVariants as condition
use Rattle.thumb_instr.specs.declared.operation.HintOperation.TheVariants as hint
use Rattle.thumb_instr.specs.declared.operation.Interrupts.TheVariants as interrupts
use Rattle.thumb_instr.specs.declared.operation.Barrier.TheVariants as barrier
use Rattle.thumb_instr.specs.declared.operation.Special.TheVariants as special
use Rattle.thumb_syntax.specs.declared.form.OperandPosition.TheVariants as position
use Rattle.thumb_syntax.specs.declared.form.Slot.{Slot}
use Rattle.thumb_syntax.specs.declared.form.Slot.TheVariants as slot
use Rattle.thumb_instr.specs.declared.kind.Kind.{Kind}
use Rattle.thumb_instr.specs.declared.kind.Kind.TheVariants as kind
use Rattle.thumb_syntax.specs.OperandForms.{first, second, comma, one, two, same_first, same_last, three, twice_and_third, amount, twice_amount, byte_number, same_and_byte, byte_alone, label, labelled, indexed, with_offset, without_offset, from_sp, at_sp, sp_again, sp_alone, written_back, load_apart, load_within}

pub record Spelling : Type 0 where
  pub mnemonic : List ℕ
  pub forms : List (List Slot)

abbrev pub spelled : List ℕ → List (List Slot) → Spelling
spelled m fs = record { mnemonic = m; forms = fs }

-- the first form of each kind is the one that is written, or the second where `is_second` says so
abbrev pub spelling : Kind → Spelling
spelling kind.Movs = spelled (codes "movs") (two ∷ [])
spelling kind.ShiftLeft = spelled (codes "lsls") (amount 1 31 ∷ twice_amount 1 31 ∷ [])
spelling (kind.ShiftRight right.Lsr) = spelled (codes "lsrs") (amount 1 32 ∷ twice_amount 1 32 ∷ [])
spelling (kind.ShiftRight right.Asr) = spelled (codes "asrs") (amount 1 32 ∷ twice_amount 1 32 ∷ [])
spelling (kind.Three sum.Add) = spelled (codes "adds") (three ∷ twice_and_third ∷ [])
spelling (kind.ThreeNumber sum.Add) = spelled (codes "adds") (amount 0 7 ∷ [])
spelling (kind.TwoNumber byte.Add) = spelled (codes "adds") (byte_number ∷ same_and_byte ∷ [])
spelling (kind.Three sum.Sub) = spelled (codes "subs") (three ∷ twice_and_third ∷ [])
spelling (kind.ThreeNumber sum.Sub) = spelled (codes "subs") (amount 0 7 ∷ [])
spelling (kind.TwoNumber byte.Sub) = spelled (codes "subs") (byte_number ∷ same_and_byte ∷ [])
spelling (kind.TwoNumber byte.Mov) = spelled (codes "movs") (byte_number ∷ [])
spelling (kind.TwoNumber byte.Cmp) = spelled (codes "cmp") (byte_number ∷ [])
spelling (kind.Two operation.And) = spelled (codes "ands") (two ∷ same_first ∷ same_last ∷ [])
spelling (kind.Two operation.Eor) = spelled (codes "eors") (two ∷ same_first ∷ same_last ∷ [])
spelling (kind.Two operation.Adc) = spelled (codes "adcs") (two ∷ same_first ∷ same_last ∷ [])
spelling (kind.Two operation.Orr) = spelled (codes "orrs") (two ∷ same_first ∷ same_last ∷ [])
spelling (kind.Two operation.Lsl) = spelled (codes "lsls") (two ∷ same_first ∷ [])
spelling (kind.Two operation.Lsr) = spelled (codes "lsrs") (two ∷ same_first ∷ [])
spelling (kind.Two operation.Asr) = spelled (codes "asrs") (two ∷ same_first ∷ [])
spelling (kind.Two operation.Sbc) = spelled (codes "sbcs") (two ∷ same_first ∷ [])
spelling (kind.Two operation.Ror) = spelled (codes "rors") (two ∷ same_first ∷ [])
spelling (kind.Two operation.Bic) = spelled (codes "bics") (two ∷ same_first ∷ [])
spelling (kind.Two operation.Tst) = spelled (codes "tst") (two ∷ [])
spelling (kind.Two operation.Cmp) = spelled (codes "cmp") (two ∷ [])
spelling (kind.Two operation.Cmn) = spelled (codes "cmn") (two ∷ [])
spelling (kind.Two operation.Mvn) = spelled (codes "mvns") (two ∷ [])
spelling (kind.Two operation.Rsb) = spelled (codes "rsbs") ((first ∷ comma ∷ second ∷ comma ∷ slot.Exactly 0 ∷ []) ∷ [])
spelling (kind.Two operation.Mul) = spelled (codes "muls") (same_last ∷ two ∷ same_first ∷ [])
spelling kind.Add = spelled (codes "add") (two ∷ same_first ∷ same_last ∷ [])
spelling kind.Compare = spelled (codes "cmp") (two ∷ [])
spelling kind.Mov = spelled (codes "mov") (two ∷ [])
spelling (kind.Extend extension.Sxth) = spelled (codes "sxth") (two ∷ [])
spelling (kind.Extend extension.Sxtb) = spelled (codes "sxtb") (two ∷ [])
spelling (kind.Extend extension.Uxth) = spelled (codes "uxth") (two ∷ [])
spelling (kind.Extend extension.Uxtb) = spelled (codes "uxtb") (two ∷ [])
spelling (kind.Reverse reversal.Rev) = spelled (codes "rev") (two ∷ [])
spelling (kind.Reverse reversal.Rev16) = spelled (codes "rev16") (two ∷ [])
spelling (kind.Reverse reversal.Revsh) = spelled (codes "revsh") (two ∷ [])
spelling kind.Literal = spelled (codes "ldr") (labelled ∷ [])
spelling kind.Address = spelled (codes "adr") (labelled ∷ [])
spelling (kind.Indexed access.Str) = spelled (codes "str") (indexed ∷ [])
spelling (kind.Indexed access.Strh) = spelled (codes "strh") (indexed ∷ [])
spelling (kind.Indexed access.Strb) = spelled (codes "strb") (indexed ∷ [])
spelling (kind.Indexed access.Ldrsb) = spelled (codes "ldrsb") (indexed ∷ [])
spelling (kind.Indexed access.Ldr) = spelled (codes "ldr") (indexed ∷ [])
spelling (kind.Indexed access.Ldrh) = spelled (codes "ldrh") (indexed ∷ [])
spelling (kind.Indexed access.Ldrb) = spelled (codes "ldrb") (indexed ∷ [])
spelling (kind.Indexed access.Ldrsh) = spelled (codes "ldrsh") (indexed ∷ [])
spelling (kind.Offset offset.Str) = spelled (codes "str") (with_offset 124 4 ∷ without_offset ∷ [])
spelling (kind.Offset offset.Ldr) = spelled (codes "ldr") (with_offset 124 4 ∷ without_offset ∷ [])
spelling (kind.Offset offset.Strb) = spelled (codes "strb") (with_offset 31 1 ∷ without_offset ∷ [])
spelling (kind.Offset offset.Ldrb) = spelled (codes "ldrb") (with_offset 31 1 ∷ without_offset ∷ [])
spelling (kind.Offset offset.Strh) = spelled (codes "strh") (with_offset 62 2 ∷ without_offset ∷ [])
spelling (kind.Offset offset.Ldrh) = spelled (codes "ldrh") (with_offset 62 2 ∷ without_offset ∷ [])
spelling (kind.Stack word.Str) = spelled (codes "str") (from_sp ∷ at_sp ∷ [])
spelling (kind.Stack word.Ldr) = spelled (codes "ldr") (from_sp ∷ at_sp ∷ [])
spelling kind.StackAddress = spelled (codes "add") ((first ∷ comma ∷ slot.Sp ∷ comma ∷ slot.Number position.Second 0 1020 4 ∷ []) ∷ [])
spelling (kind.StackMove sum.Add) = spelled (codes "add") (sp_again ∷ sp_alone ∷ [])
spelling (kind.StackMove sum.Sub) = spelled (codes "sub") (sp_again ∷ sp_alone ∷ [])
spelling kind.Push = spelled (codes "push") ((slot.StackList position.First 14 ∷ []) ∷ [])
spelling kind.Pop = spelled (codes "pop") ((slot.StackList position.First 15 ∷ []) ∷ [])
spelling kind.StoreMany = spelled (codes "stm") (written_back ∷ [])
spelling kind.LoadMany = spelled (codes "ldm") (load_apart ∷ load_within ∷ [])
spelling kind.Bx = spelled (codes "bx") (one ∷ [])
spelling kind.Blx = spelled (codes "blx") (one ∷ [])
spelling kind.Breakpoint = spelled (codes "bkpt") (byte_alone ∷ [])
spelling kind.Service = spelled (codes "svc") (byte_alone ∷ [])
spelling (kind.Hint hint.Nop) = spelled (codes "nop") ([] ∷ [])
spelling (kind.Hint hint.Yield) = spelled (codes "yield") ([] ∷ [])
spelling (kind.Hint hint.Wfe) = spelled (codes "wfe") ([] ∷ [])
spelling (kind.Hint hint.Wfi) = spelled (codes "wfi") ([] ∷ [])
spelling (kind.Hint hint.Sev) = spelled (codes "sev") ([] ∷ [])
spelling (kind.ChangeState interrupts.Enable) = spelled (codes "cpsie") ((slot.I ∷ []) ∷ [])
spelling (kind.ChangeState interrupts.Disable) = spelled (codes "cpsid") ((slot.I ∷ []) ∷ [])
spelling (kind.BranchIf condition.Eq) = spelled (codes "beq") (label ∷ [])
spelling (kind.BranchIf condition.Ne) = spelled (codes "bne") (label ∷ [])
spelling (kind.BranchIf condition.Cs) = spelled (codes "bcs") (label ∷ [])
spelling (kind.BranchIf condition.Cc) = spelled (codes "bcc") (label ∷ [])
spelling (kind.BranchIf condition.Mi) = spelled (codes "bmi") (label ∷ [])
spelling (kind.BranchIf condition.Pl) = spelled (codes "bpl") (label ∷ [])
spelling (kind.BranchIf condition.Vs) = spelled (codes "bvs") (label ∷ [])
spelling (kind.BranchIf condition.Vc) = spelled (codes "bvc") (label ∷ [])
spelling (kind.BranchIf condition.Hi) = spelled (codes "bhi") (label ∷ [])
spelling (kind.BranchIf condition.Ls) = spelled (codes "bls") (label ∷ [])
spelling (kind.BranchIf condition.Ge) = spelled (codes "bge") (label ∷ [])
spelling (kind.BranchIf condition.Lt) = spelled (codes "blt") (label ∷ [])
spelling (kind.BranchIf condition.Gt) = spelled (codes "bgt") (label ∷ [])
spelling (kind.BranchIf condition.Le) = spelled (codes "ble") (label ∷ [])
spelling kind.Branch = spelled (codes "b") (label ∷ [])
spelling kind.Call = spelled (codes "bl") (label ∷ [])
spelling (kind.Barrier barrier.Dsb) = spelled (codes "dsb") ((slot.Sy ∷ []) ∷ [] ∷ [])
spelling (kind.Barrier barrier.Dmb) = spelled (codes "dmb") ((slot.Sy ∷ []) ∷ [] ∷ [])
spelling (kind.Barrier barrier.Isb) = spelled (codes "isb") ((slot.Sy ∷ []) ∷ [] ∷ [])
spelling (kind.ReadSpecial special.Primask) = spelled (codes "mrs") ((first ∷ comma ∷ slot.Primask ∷ []) ∷ [])
spelling (kind.ReadSpecial special.Ipsr) = spelled (codes "mrs") ((first ∷ comma ∷ slot.Ipsr ∷ []) ∷ [])
spelling kind.WriteMask = spelled (codes "msr") ((slot.Primask ∷ comma ∷ first ∷ []) ∷ [])

abbrev pub mnemonic : Kind → List ℕ
mnemonic k = (spelling k).mnemonic

abbrev pub forms : Kind → List (List Slot)
forms k = (spelling k).forms
