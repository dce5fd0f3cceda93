use Rattle.std.proofs.Common.{arith, rules}
use Rattle.bit_blast.proofs.Ends.{stages_step}
use Rattle.bit_blast.proofs.shifts.stages.Goals as goal

pub loop-j-preserved : goal.loop-j-preserved
loop-j-preserved c =
    stages_step c.args.kind c.loop-j.builder c.stage.new.builder c.loop-j.j c.args.amount.now c.loop-j.s c.in_ok-s.s c.index-amount-j.result _ (omega arith) c.type_inv.amount c.index-amount-j.is (search rules) c.loop-j.invariant
