-- Each instruction is written in a form of the table.
use Rattle.std.proofs.Common.{◌≡◌, ℕ, true, List, [], ◌∷◌, Option, refl, arith}
use Rattle.thumb_instr.specs.declared.instr.Instr.{Instr}
use Rattle.thumb_instr.specs.declared.instr.Instr.TheVariants as instr
use Rattle.thumb_instr.specs.declared.operation.SumOperation.TheVariants as sum
use Rattle.thumb_instr.specs.declared.operation.Right.TheVariants as right
use Rattle.thumb_instr.specs.declared.operation.ByteOperation.TheVariants as byte
use Rattle.thumb_instr.specs.declared.operation.Operation.TheVariants as operation
use Rattle.thumb_instr.specs.declared.operation.Extension.TheVariants as extension
use Rattle.thumb_instr.specs.declared.operation.Reversal.TheVariants as reversal
use Rattle.thumb_instr.specs.declared.operation.Access.TheVariants as access
use Rattle.thumb_instr.specs.declared.operation.OffsetAccess.TheVariants as offset
use Rattle.thumb_instr.specs.declared.operation.WordAccess.TheVariants as word
use Rattle.thumb_instr.specs.declared.operation.Condition.TheVariants as condition
use Rattle.thumb_instr.specs.declared.operation.HintOperation.TheVariants as hint
use Rattle.thumb_instr.specs.declared.operation.Interrupts.TheVariants as interrupts
use Rattle.thumb_instr.specs.declared.operation.Barrier.TheVariants as barrier
use Rattle.thumb_instr.specs.declared.operation.Special.TheVariants as special
use Rattle.thumb_syntax.specs.declared.form.Slot.TheVariants as slot
use Rattle.thumb_instr.specs.declared.kind.Kind.TheVariants as kind
use Rattle.thumb_instr.specs.Parts.{parts_of}
use Rattle.thumb_syntax.specs.Rows.{data_rows, memory_rows, control_rows}
use Rattle.thumb_syntax.specs.RowLaws.{rows}
use Rattle.thumb_syntax.specs.Whole.{is_whole}
use Rattle.thumb_syntax.proofs.WrittenRows.{Written, two_row, zero_row, same_row, three_row, indexed_row, amount_row, byte_row, one_row, alone_row, offset_row, stack_row, sp_sum_row, sp_move_row, list_row, store_row, load_row, fixed_row, primask_row, ipsr_row, mask_row, jump_row, place_row, low_row}

-- ---- every instruction

pub written : (i : Instr) (l : Option (List ℕ × ℕ)) → is_whole i l ≡ true → Written (parts_of i) l
unfolding rows data_rows memory_rows control_rows
written (instr.Mov d m) l w = two_row kind.Mov 55 d.number m.number l refl refl (omega (arith, d.below)) (omega (arith, m.below)) w
written (instr.Three sum.Add d n m) l w = three_row (kind.Three sum.Add) 7 d.number n.number m.number l refl refl d.below n.below m.below w
written (instr.Three sum.Sub d n m) l w = three_row (kind.Three sum.Sub) 12 d.number n.number m.number l refl refl d.below n.below m.below w
written (instr.Two operation.And d m) l w = low_row (kind.Two operation.And) 19 d.number m.number l refl refl d.below m.below w
written (instr.Two operation.Eor d m) l w = low_row (kind.Two operation.Eor) 22 d.number m.number l refl refl d.below m.below w
written (instr.Two operation.Lsl d m) l w = low_row (kind.Two operation.Lsl) 31 d.number m.number l refl refl d.below m.below w
written (instr.Two operation.Lsr d m) l w = low_row (kind.Two operation.Lsr) 33 d.number m.number l refl refl d.below m.below w
written (instr.Two operation.Asr d m) l w = low_row (kind.Two operation.Asr) 35 d.number m.number l refl refl d.below m.below w
written (instr.Two operation.Adc d m) l w = low_row (kind.Two operation.Adc) 25 d.number m.number l refl refl d.below m.below w
written (instr.Two operation.Sbc d m) l w = low_row (kind.Two operation.Sbc) 37 d.number m.number l refl refl d.below m.below w
written (instr.Two operation.Ror d m) l w = low_row (kind.Two operation.Ror) 39 d.number m.number l refl refl d.below m.below w
written (instr.Two operation.Tst d m) l w = low_row (kind.Two operation.Tst) 43 d.number m.number l refl refl d.below m.below w
written (instr.Two operation.Rsb d m) l w = zero_row (kind.Two operation.Rsb) 47 d.number m.number l refl refl d.below m.below w
written (instr.Two operation.Cmp d m) l w = low_row (kind.Two operation.Cmp) 44 d.number m.number l refl refl d.below m.below w
written (instr.Two operation.Cmn d m) l w = low_row (kind.Two operation.Cmn) 45 d.number m.number l refl refl d.below m.below w
written (instr.Two operation.Orr d m) l w = low_row (kind.Two operation.Orr) 28 d.number m.number l refl refl d.below m.below w
written (instr.Two operation.Mul d m) l w = same_row (kind.Two operation.Mul) 48 d.number m.number l refl refl d.below m.below w
written (instr.Two operation.Bic d m) l w = low_row (kind.Two operation.Bic) 41 d.number m.number l refl refl d.below m.below w
written (instr.Two operation.Mvn d m) l w = low_row (kind.Two operation.Mvn) 46 d.number m.number l refl refl d.below m.below w
written (instr.Bx m) l w = one_row kind.Bx 105 m.number l refl refl m.below w
written (instr.Movs d m) l w = low_row kind.Movs 0 d.number m.number l refl refl d.below m.below w
written (instr.ShiftLeft d m i) l w = amount_row kind.ShiftLeft 1 1 31 32 d.number m.number i.number l refl refl refl d.below m.below i.least i.below w
written (instr.ShiftRight right.Lsr d m i) l w = amount_row (kind.ShiftRight right.Lsr) 3 1 32 33 d.number m.number i.number l refl refl refl d.below m.below i.least i.below w
written (instr.ShiftRight right.Asr d m i) l w = amount_row (kind.ShiftRight right.Asr) 5 1 32 33 d.number m.number i.number l refl refl refl d.below m.below i.least i.below w
written (instr.ThreeNumber sum.Add d m i) l w = amount_row (kind.ThreeNumber sum.Add) 9 0 7 8 d.number m.number i.number l refl refl refl d.below m.below i.least i.below w
written (instr.ThreeNumber sum.Sub d m i) l w = amount_row (kind.ThreeNumber sum.Sub) 14 0 7 8 d.number m.number i.number l refl refl refl d.below m.below i.least i.below w
written (instr.TwoNumber byte.Mov d i) l w = byte_row (kind.TwoNumber byte.Mov) 17 d.number i.number l refl refl d.below i.below w
written (instr.TwoNumber byte.Cmp d i) l w = byte_row (kind.TwoNumber byte.Cmp) 18 d.number i.number l refl refl d.below i.below w
written (instr.TwoNumber byte.Add d i) l w = byte_row (kind.TwoNumber byte.Add) 10 d.number i.number l refl refl d.below i.below w
written (instr.TwoNumber byte.Sub d i) l w = byte_row (kind.TwoNumber byte.Sub) 15 d.number i.number l refl refl d.below i.below w
written (instr.Add r) l w = two_row kind.Add 51 r.target.number r.source.number l refl refl (omega (arith, r.target.below)) (omega (arith, r.source.below)) w
written (instr.Compare r) l w = two_row kind.Compare 54 r.left.number r.right.number l refl refl (omega (arith, r.left.below)) (omega (arith, r.right.below)) w
written (instr.Blx m) l w = one_row kind.Blx 106 m.number l refl refl m.below w
written (instr.Literal t i) l w = place_row kind.Literal 66 t.number i.number l refl refl t.below w
written (instr.Address t i) l w = place_row kind.Address 67 t.number i.number l refl refl t.below w
written (instr.Indexed access.Str d n m) l w = indexed_row (kind.Indexed access.Str) 68 d.number n.number m.number l refl refl d.below n.below m.below w
written (instr.Indexed access.Strh d n m) l w = indexed_row (kind.Indexed access.Strh) 69 d.number n.number m.number l refl refl d.below n.below m.below w
written (instr.Indexed access.Strb d n m) l w = indexed_row (kind.Indexed access.Strb) 70 d.number n.number m.number l refl refl d.below n.below m.below w
written (instr.Indexed access.Ldrsb d n m) l w = indexed_row (kind.Indexed access.Ldrsb) 71 d.number n.number m.number l refl refl d.below n.below m.below w
written (instr.Indexed access.Ldr d n m) l w = indexed_row (kind.Indexed access.Ldr) 72 d.number n.number m.number l refl refl d.below n.below m.below w
written (instr.Indexed access.Ldrh d n m) l w = indexed_row (kind.Indexed access.Ldrh) 73 d.number n.number m.number l refl refl d.below n.below m.below w
written (instr.Indexed access.Ldrb d n m) l w = indexed_row (kind.Indexed access.Ldrb) 74 d.number n.number m.number l refl refl d.below n.below m.below w
written (instr.Indexed access.Ldrsh d n m) l w = indexed_row (kind.Indexed access.Ldrsh) 75 d.number n.number m.number l refl refl d.below n.below m.below w
written (instr.Offset offset.Str t n i) l w = offset_row (kind.Offset offset.Str) 76 77 124 4 t.number n.number i.number l refl refl refl refl t.below n.below i.below w
written (instr.Offset offset.Ldr t n i) l w = offset_row (kind.Offset offset.Ldr) 78 79 124 4 t.number n.number i.number l refl refl refl refl t.below n.below i.below w
written (instr.Offset offset.Strb t n i) l w = offset_row (kind.Offset offset.Strb) 80 81 31 1 t.number n.number i.number l refl refl refl refl t.below n.below i.below w
written (instr.Offset offset.Ldrb t n i) l w = offset_row (kind.Offset offset.Ldrb) 82 83 31 1 t.number n.number i.number l refl refl refl refl t.below n.below i.below w
written (instr.Offset offset.Strh t n i) l w = offset_row (kind.Offset offset.Strh) 84 85 62 2 t.number n.number i.number l refl refl refl refl t.below n.below i.below w
written (instr.Offset offset.Ldrh t n i) l w = offset_row (kind.Offset offset.Ldrh) 86 87 62 2 t.number n.number i.number l refl refl refl refl t.below n.below i.below w
written (instr.Stack word.Str t i) l w = stack_row (kind.Stack word.Str) 88 89 t.number i.number l refl refl refl t.below i.below w
written (instr.Stack word.Ldr t i) l w = stack_row (kind.Stack word.Ldr) 90 91 t.number i.number l refl refl refl t.below i.below w
written (instr.StackAddress t i) l w = sp_sum_row kind.StackAddress 92 t.number i.number l refl refl t.below i.below w
written (instr.StackMove sum.Add i) l w = sp_move_row (kind.StackMove sum.Add) 93 i.number l refl refl i.below w
written (instr.StackMove sum.Sub i) l w = sp_move_row (kind.StackMove sum.Sub) 95 i.number l refl refl i.below w
written (instr.Extend extension.Sxth d m) l w = low_row (kind.Extend extension.Sxth) 56 d.number m.number l refl refl d.below m.below w
written (instr.Extend extension.Sxtb d m) l w = low_row (kind.Extend extension.Sxtb) 57 d.number m.number l refl refl d.below m.below w
written (instr.Extend extension.Uxth d m) l w = low_row (kind.Extend extension.Uxth) 58 d.number m.number l refl refl d.below m.below w
written (instr.Extend extension.Uxtb d m) l w = low_row (kind.Extend extension.Uxtb) 59 d.number m.number l refl refl d.below m.below w
written (instr.Reverse reversal.Rev d m) l w = low_row (kind.Reverse reversal.Rev) 60 d.number m.number l refl refl d.below m.below w
written (instr.Reverse reversal.Rev16 d m) l w = low_row (kind.Reverse reversal.Rev16) 61 d.number m.number l refl refl d.below m.below w
written (instr.Reverse reversal.Revsh d m) l w = low_row (kind.Reverse reversal.Revsh) 62 d.number m.number l refl refl d.below m.below w
written (instr.Push r) l w = list_row kind.Push 97 14 r.number l refl refl refl r.least r.below w
written (instr.Pop r) l w = list_row kind.Pop 98 15 r.number l refl refl refl r.least r.below w
written (instr.StoreMany r) l w = store_row kind.StoreMany 99 r.base.number r.list.number l refl refl r.base.below r.list.least r.list.below w
written (instr.LoadMany n r) l w = load_row kind.LoadMany 100 101 n.number r.number l refl refl refl n.below r.least r.below w
written (instr.Breakpoint i) l w = alone_row kind.Breakpoint 107 i.number l refl refl i.below w
written (instr.Service i) l w = alone_row kind.Service 108 i.number l refl refl i.below w
written (instr.Hint hint.Nop) l w = fixed_row (kind.Hint hint.Nop) 109 [] l refl refl refl refl w
written (instr.Hint hint.Yield) l w = fixed_row (kind.Hint hint.Yield) 110 [] l refl refl refl refl w
written (instr.Hint hint.Wfe) l w = fixed_row (kind.Hint hint.Wfe) 111 [] l refl refl refl refl w
written (instr.Hint hint.Wfi) l w = fixed_row (kind.Hint hint.Wfi) 112 [] l refl refl refl refl w
written (instr.Hint hint.Sev) l w = fixed_row (kind.Hint hint.Sev) 113 [] l refl refl refl refl w
written (instr.ChangeState interrupts.Enable) l w = fixed_row (kind.ChangeState interrupts.Enable) 114 (slot.I ∷ []) l refl refl refl refl w
written (instr.ChangeState interrupts.Disable) l w = fixed_row (kind.ChangeState interrupts.Disable) 115 (slot.I ∷ []) l refl refl refl refl w
written (instr.BranchIf condition.Eq i) l w = jump_row (kind.BranchIf condition.Eq) 116 i.field l refl refl w
written (instr.BranchIf condition.Ne i) l w = jump_row (kind.BranchIf condition.Ne) 117 i.field l refl refl w
written (instr.BranchIf condition.Cs i) l w = jump_row (kind.BranchIf condition.Cs) 118 i.field l refl refl w
written (instr.BranchIf condition.Cc i) l w = jump_row (kind.BranchIf condition.Cc) 119 i.field l refl refl w
written (instr.BranchIf condition.Mi i) l w = jump_row (kind.BranchIf condition.Mi) 120 i.field l refl refl w
written (instr.BranchIf condition.Pl i) l w = jump_row (kind.BranchIf condition.Pl) 121 i.field l refl refl w
written (instr.BranchIf condition.Vs i) l w = jump_row (kind.BranchIf condition.Vs) 122 i.field l refl refl w
written (instr.BranchIf condition.Vc i) l w = jump_row (kind.BranchIf condition.Vc) 123 i.field l refl refl w
written (instr.BranchIf condition.Hi i) l w = jump_row (kind.BranchIf condition.Hi) 124 i.field l refl refl w
written (instr.BranchIf condition.Ls i) l w = jump_row (kind.BranchIf condition.Ls) 125 i.field l refl refl w
written (instr.BranchIf condition.Ge i) l w = jump_row (kind.BranchIf condition.Ge) 126 i.field l refl refl w
written (instr.BranchIf condition.Lt i) l w = jump_row (kind.BranchIf condition.Lt) 127 i.field l refl refl w
written (instr.BranchIf condition.Gt i) l w = jump_row (kind.BranchIf condition.Gt) 128 i.field l refl refl w
written (instr.BranchIf condition.Le i) l w = jump_row (kind.BranchIf condition.Le) 129 i.field l refl refl w
written (instr.Branch i) l w = jump_row kind.Branch 130 i.field l refl refl w
written (instr.Call i) l w = jump_row kind.Call 131 i.field l refl refl w
written (instr.Barrier barrier.Dsb) l w = fixed_row (kind.Barrier barrier.Dsb) 132 (slot.Sy ∷ []) l refl refl refl refl w
written (instr.Barrier barrier.Dmb) l w = fixed_row (kind.Barrier barrier.Dmb) 134 (slot.Sy ∷ []) l refl refl refl refl w
written (instr.Barrier barrier.Isb) l w = fixed_row (kind.Barrier barrier.Isb) 136 (slot.Sy ∷ []) l refl refl refl refl w
written (instr.ReadSpecial m special.Primask) l w = primask_row (kind.ReadSpecial special.Primask) 138 m.number l refl refl m.below w
written (instr.ReadSpecial m special.Ipsr) l w = ipsr_row (kind.ReadSpecial special.Ipsr) 139 m.number l refl refl m.below w
written (instr.WriteMask m) l w = mask_row kind.WriteMask 140 m.number l refl refl m.below w
