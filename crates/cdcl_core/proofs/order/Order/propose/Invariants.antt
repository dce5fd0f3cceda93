use Rattle.std.proofs.Common.{◌-◌}
use Rattle.cdcl_core.proofs.order.Order.propose.Given as goal

abbrev pub decreases-loop-self : goal.decreases-loop-self
decreases-loop-self l = l.variables - l.self.next
