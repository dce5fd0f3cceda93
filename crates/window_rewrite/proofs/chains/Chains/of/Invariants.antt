use Rattle.std.proofs.Common.{◌≡◌, ◌≤◌, length}
use Rattle.window_rewrite.specs.Rules.{AreChains}
use Rattle.window_rewrite.proofs.chains.Chains.of.Given as goal

abbrev pub invariant-loop-number : goal.invariant-loop-number
invariant-loop-number l = record {
  within : l.number ≤ length l.forms;
  kept : l.chains.kept ≡ l.fn.kept;
  chains : AreChains l.forms l.number l.chains;
}

abbrev pub decreases-loop-number : goal.decreases-loop-number
decreases-loop-number l = l.number
