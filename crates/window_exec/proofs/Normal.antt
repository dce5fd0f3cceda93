-- ADDS and SUBS of a 3-bit number to its own register do what their second encoding does.
use Rattle.std.proofs.Common.{◌≡◌, ◌==◌, true, false, if◌then◌else◌, refl, ap, eqb-true}
use Rattle.thumb_instr.specs.declared.instr.Instr.{Instr}
use Rattle.thumb_instr.specs.declared.instr.Instr.TheVariants as instr
use Rattle.thumb_instr.specs.declared.operation.SumOperation.{SumOperation}
use Rattle.thumb_instr.specs.declared.operation.SumOperation.TheVariants as sum
use Rattle.thumb_instr.specs.declared.within.Within.{Within}
use Rattle.thumb_instr.specs.Window.{normal_of, byte_of, byte_sum}
use Rattle.thumb_model.specs.Effect.{Values, assigned, after, outputs, sum_outputs, three_sum}

sums_agree : (s : SumOperation) (d n k : Within 0 8) (v : Values) → d.number ≡ n.number → outputs (instr.TwoNumber (byte_sum s) d (byte_of k)) v ≡ outputs (instr.ThreeNumber s d n k) v
sums_agree sum.Add d n k v e = ap (λ x. sum_outputs d.number (three_sum sum.Add (v x) k.number)) e
sums_agree sum.Sub d n k v e = ap (λ x. sum_outputs d.number (three_sum sum.Sub (v x) k.number)) e

pub keeps : (i : Instr) (v : Values) → after (normal_of i) v ≡ after i v
keeps (instr.ThreeNumber s d n k) v =
    elim (d.number == n.number) as (λ b. (d.number == n.number) ≡ b → after (if b then instr.TwoNumber (byte_sum s) d (byte_of k) else instr.ThreeNumber s d n k) v ≡ after (instr.ThreeNumber s d n k) v) [
      | true ↦ λ e. ap (λ o. assigned o v) (sums_agree s d n k v (eqb-true d.number n.number e))
      | false ↦ λ e. refl
    ] refl
keeps i v = refl
