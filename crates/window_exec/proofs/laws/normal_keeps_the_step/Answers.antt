use Rattle.window_exec.proofs.Normal.{keeps}
use Rattle.window_exec.proofs.laws.normal_keeps_the_step.Goals as goal

pub returns : goal.returns
returns c = keeps
