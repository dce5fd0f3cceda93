use Rattle.std.proofs.Common.{◌∙◌}
use Rattle.window_exec.proofs.stepping.step.Goals as goal

pub returns-clause-values : goal.returns-clause-values
returns-clause-values c = c.with_flags_alone.ensures.values ∙ c.compute.ensures 0

pub returns-clause-flags : goal.returns-clause-flags
returns-clause-flags c = c.with_flags_alone.ensures.flags
