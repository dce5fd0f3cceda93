use Rattle.std.proofs.Common.{◌≡◌, ◌+◌, ◌≤◌, true, length}
use Rattle.step_ledger.specs.Counts.{RisesByAtLeast}
use Rattle.window_rewrite.specs.Choices.{setting_of, sides_of, longer}
use Rattle.window_rewrite.specs.Scenes.{lines_seen, number_seen}
use Rattle.window_rewrite.proofs.Chosen.{NoneLonger}
use Rattle.window_rewrite.proofs.finding.best.Given as goal

abbrev pub invariant-loop-count : goal.invariant-loop-count
invariant-loop-count g l = record {
  within : l.count ≤ length l.lookup.site.now.run.instrs;
  none : NoneLonger l.refused (setting_of l.lookup.rules.now) (lines_seen l.lookup) (number_seen l.lookup) l.count;
  stays : l.initial.refused ≡ true → l.refused ≡ true;
  rises : RisesByAtLeast l.initial.steps l.steps 0;
  cost : l.steps ≤ l.initial.steps + longer l.count (sides_of l.lookup.rules.now);
}

abbrev pub decreases-loop-count : goal.decreases-loop-count
decreases-loop-count g l = l.count
