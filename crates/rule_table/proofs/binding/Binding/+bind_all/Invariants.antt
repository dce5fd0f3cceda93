use Rattle.std.proofs.Common.{length}
use Rattle.rule_table.proofs.binding.Binding.«+bind_all».Given as goal

abbrev pub decreases-bind_all : goal.decreases-bind_all
decreases-bind_all l = length l.left.now
