use Rattle.std.proofs.Common.{take}
use Rattle.std.proofs.lemmas.List.{take_more}
use Rattle.step_ledger.proofs.Rises.{goes_on, ticks}
use Rattle.lrat_check.proofs.propagation.counted_standing_of.Goals as goal

pub loop-literal-preserved : goal.loop-literal-preserved
loop-literal-preserved g c = (
  rw (take_more c.args.clause.now c.loop-literal.literal-index c.literal-item.result c.loop-literal-test.true, ← c.literal-item.is) (c.standing_with-standing.ensures (take c.loop-literal.literal-index c.args.clause.now) c.loop-literal.invariant.0),
  goes_on _ _ _ c.loop-literal.literal-index 1 c.loop-literal.invariant.1 (ticks _ _ c.tick.ensures),
)
