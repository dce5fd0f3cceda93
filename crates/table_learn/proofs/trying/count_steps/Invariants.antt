use Rattle.std.proofs.Common.{◌≤◌, ◌+◌}
use Rattle.table_learn.proofs.trying.count_steps.Given as goal

abbrev pub invariant-loop-step : goal.invariant-loop-step
invariant-loop-step g l = l.steps ≤ l.initial.steps + l._step
