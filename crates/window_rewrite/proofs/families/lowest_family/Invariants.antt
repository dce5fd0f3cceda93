use Rattle.std.proofs.Common.{◌≡◌, true, length}
use Rattle.step_ledger.specs.Counts.{RisesByAtLeast}
use Rattle.window_rewrite.specs.Choices.{families_sides}
use Rattle.window_rewrite.specs.Scenes.{lines_seen, number_seen}
use Rattle.window_rewrite.proofs.Chosen.{left_of}
use Rattle.window_rewrite.proofs.FamilySearch.{IsFamilySearch}
use Rattle.window_rewrite.proofs.families.lowest_family.Given as goal

abbrev pub invariant-loop-at : goal.invariant-loop-at
invariant-loop-at g l = record {
  search : IsFamilySearch l.refused l.sight.lookup.now.rules.now (lines_seen l.sight.lookup.now) (number_seen l.sight.lookup.now) (length l.sight.window.now) l.sight.form.now.side l.at l.initial.steps l.steps;
  stays : l.initial.refused ≡ true → l.refused ≡ true;
  rises : RisesByAtLeast l.initial.steps l.steps 0;
}

abbrev pub decreases-loop-at : goal.decreases-loop-at
decreases-loop-at g l = left_of (families_sides l.sight.lookup.now.rules.now) l.at
