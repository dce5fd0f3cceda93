use Rattle.std.proofs.Common.{◌∙◌, refl, arith, eqb, ◌%◌}
use Rattle.std.proofs.lemmas.List.{length-set}
use Rattle.cnf_gates.specs.declared.bit.Bit.TheVariants.{Constant}
use Rattle.bit_blast.specs.Words.{constant}
use Rattle.bit_blast.proofs.Ends.{constant_step}
use Rattle.bit_blast.proofs.words.constant.Goals as goal

pub loop-i-init : goal.loop-i-init
unfolding constant
loop-i-init c = (refl, refl)

pub loop-i-preserved : goal.loop-i-preserved
loop-i-preserved c = (
  length-set c.loop-i.bits c.loop-i.i (Constant (eqb (c.loop-i.rest % 2) 1)) ∙ c.loop-i.invariant.0,
  constant_step c.loop-i.i c.loop-i.rest c.loop-i.bits _ (omega arith) c.loop-i.invariant.0 c.loop-i.invariant.1,
)
