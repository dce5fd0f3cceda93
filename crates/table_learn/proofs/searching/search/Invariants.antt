use Rattle.std.proofs.Common.{◌≤◌, ◌+◌, ◌*◌, length, map, take, drop}
use Rattle.window_exec.specs.State.{seen}
use Rattle.rule_table.specs.Views.{opened_of}
use Rattle.table_learn.specs.Given.{settings_of}
use Rattle.table_learn.specs.Found.{window_in}
use Rattle.table_learn.specs.Searching.{IsSearching, query_cost}
use Rattle.table_learn.proofs.searching.search.Given as goal

abbrev pub invariant-loop-number : goal.invariant-loop-number
invariant-loop-number g l = record {
  search : IsSearching (settings_of l.settings) (window_in l.window) (map seen l.initial.states.items) (map seen l.states.items) (map opened_of l.opens.items) (take l.number-index l.list.numbers.items) (drop l.number-index l.list.numbers.items);
  cost : l.steps ≤ l.initial.steps + l.number-index * query_cost l.settings.budget (length l.states.items) (length l.window.left);
}
