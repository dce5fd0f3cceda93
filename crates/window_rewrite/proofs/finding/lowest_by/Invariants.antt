use Rattle.std.proofs.Common.{◌≡◌, true}
use Rattle.step_ledger.specs.Counts.{RisesByAtLeast}
use Rattle.window_rewrite.specs.Rules.{rules_in}
use Rattle.window_rewrite.specs.Scenes.{lines_seen, number_seen}
use Rattle.window_rewrite.proofs.Chosen.{IsSearch, left_of}
use Rattle.window_rewrite.proofs.finding.lowest_by.Given as goal

abbrev pub invariant-loop-at : goal.invariant-loop-at
invariant-loop-at g l = record {
  search : IsSearch l.refused l.sight.lookup.now.rules.now.costs.now l.sight.lookup.now.rules.now.base (rules_in l.sight.lookup.now.rules.now.entries.now) l.sight.lookup.now.rules.now.index.now.entries.kept.items (lines_seen l.sight.lookup.now) (number_seen l.sight.lookup.now) l.sight.window.now l.at l.initial.steps l.steps;
  stays : l.initial.refused ≡ true → l.refused ≡ true;
  rises : RisesByAtLeast l.initial.steps l.steps 0;
}

abbrev pub decreases-loop-at : goal.decreases-loop-at
decreases-loop-at g l = left_of (rules_in l.sight.lookup.now.rules.now.entries.now) l.at
