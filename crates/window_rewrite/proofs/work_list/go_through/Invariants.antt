use Rattle.std.proofs.Common.{◌≡◌, ◌+◌, ◌-◌, ◌*◌, ◌≤◌, All, length}
use Rattle.step_ledger.specs.Counts.{RisesByAtLeast}
use Rattle.window_rewrite.specs.Choices.{setting_of, sides_of}
use Rattle.window_rewrite.specs.WorkList.{before_least, AreTried, Completes}
use Rattle.window_rewrite.specs.TableRewriting.{IsWhole}
use Rattle.window_rewrite.specs.Scenes.{lines_of, IsOver}
use Rattle.window_rewrite.proofs.Rounds.{paid}
use Rattle.window_rewrite.proofs.work_list.go_through.Given as goal

-- in each round places ascend up to the least one that is due
abbrev pub invariant-loop-place : goal.invariant-loop-place
invariant-loop-place g l = record {
  over : IsOver l.rules l.scene;
  tried : AreTried (setting_of l.rules) l.scene l.work_list;
  many : length l.scene.listing.stands ≡ length l.fn.scene.listing.stands;
  completes : Completes (setting_of l.rules) (lines_of l.fn.scene) l.replacements.items (lines_of l.scene);
  whole : All IsWhole l.replacements.items;
  cost : l.steps ≤ l.fn.steps + length l.replacements.items * (length l.fn.scene.listing.stands * length (sides_of l.rules)) + before_least l.work_list.due * length (sides_of l.rules);
  rises : RisesByAtLeast l.fn.steps l.steps (length l.replacements.items);
}

abbrev pub decreases-loop-place : goal.decreases-loop-place
decreases-loop-place g l = paid (setting_of l.rules) (lines_of l.scene) * (length l.fn.scene.listing.stands + 1) + (length l.fn.scene.listing.stands - before_least l.work_list.due)
