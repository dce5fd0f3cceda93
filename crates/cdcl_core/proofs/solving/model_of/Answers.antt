use Rattle.std.proofs.Common.{length, arith, ap}
use Rattle.cdcl_core.proofs.Statements.{values_more}
use Rattle.cdcl_core.proofs.solving.model_of.Goals as goal

pub loop-variable-preserved : goal.loop-variable-preserved
loop-variable-preserved c = (
  omega (arith, c.loop-variable.invariant.0, c.in_ok-push.ensures.len, ap length c.in_ok-push.ensures.items),
  values_more c.args.trail.now c.loop-variable.values.items c.push.new.self.items c.loop-variable.variable c.new-literal.result c.is_true.result c.loop-variable.invariant.0 c.in_ok-push.ensures.items (omega (arith, c.new-literal.ensures)) c.is_true.ensures c.loop-variable.invariant.1,
)
