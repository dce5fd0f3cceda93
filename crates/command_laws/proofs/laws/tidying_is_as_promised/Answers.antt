use Rattle.command_laws.proofs.TidyPromise.{as_promised}
use Rattle.command_laws.proofs.laws.tidying_is_as_promised.Goals as goal

pub returns : goal.returns
returns c = as_promised
