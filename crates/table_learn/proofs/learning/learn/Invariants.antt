use Rattle.std.proofs.Common.{◌≤◌, ◌+◌, ◌*◌, ◌-◌, length, map, take}
use Rattle.table_learn.specs.Given.{settings_of, window_of}
use Rattle.ascii_scan.specs.Lines.{text_limit}
use Rattle.table_learn.specs.Progress.{HasLearnt, search_cost, drop_cost}
use Rattle.table_learn.proofs.learning.learn.Given as goal

abbrev pub invariant-loop-left : goal.invariant-loop-left
invariant-loop-left g l = record {
  learnt : HasLearnt (settings_of l.fn.settings) (map window_of (take l.left-index l.fn.windows.items)) l.learner;
  short : l.learner.bytes ≤ text_limit;
  cost : l.steps ≤ l.fn.steps + (l.left-index * search_cost (settings_of l.fn.settings) (length l.learner.states.items)
      + drop_cost (settings_of l.fn.settings) (length l.fn.windows.items) (length l.learner.states.items - 64));
}
