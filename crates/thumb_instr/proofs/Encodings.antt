-- The normal form that represents both encodings of one effect.
use Rattle.std.proofs.Common.{◌≡◌, sym, ap, ◌∙◌, eq-eqb}
use Rattle.std.specs.Prelude.{if◌then◌else◌}
use Rattle.thumb_instr.specs.declared.instr.Instr.{Instr}
use Rattle.thumb_instr.specs.declared.instr.Instr.TheVariants as instr
use Rattle.thumb_instr.specs.declared.operation.SumOperation.{SumOperation}
use Rattle.thumb_instr.specs.declared.within.Within.{Within}
use Rattle.thumb_instr.specs.Window.{normal_of, byte_of, byte_sum}
use Rattle.thumb_instr.proofs.Registers.{same_number}

-- the normal form of ADDS and SUBS of a 3-bit number to its own register
pub normal_is : (s : SumOperation) (d n : Within 0 8) (k : Within 0 8) (r : Within 0 256) (i : Instr) → i ≡ instr.ThreeNumber s d n k → d.number ≡ n.number → r.number ≡ k.number
    → instr.TwoNumber (byte_sum s) d r ≡ normal_of i
normal_is s d n k r i e same number =
    ap (instr.TwoNumber (byte_sum s) d) (same_number r (byte_of k) number)
    ∙ (sym (ap (λ t. if t then instr.TwoNumber (byte_sum s) d (byte_of k) else instr.ThreeNumber s d n k) (eq-eqb d.number n.number same)) ∙ ap normal_of (sym e))
