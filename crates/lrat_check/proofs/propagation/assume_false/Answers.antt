use Rattle.clause_model.proofs.Sound.{assumed_unset}
use Rattle.lrat_check.proofs.propagation.assume_false.Goals as goal

pub set-requires : goal.set-requires
set-requires c =
    rw c.loop-literal.invariant (assumed_unset c.args.literals.now c.loop-literal.literal-index c.literal-item.result c.negated.result
    c.loop-literal-test.true c.literal-item.is c.negated.ensures c.requires.distinct)
