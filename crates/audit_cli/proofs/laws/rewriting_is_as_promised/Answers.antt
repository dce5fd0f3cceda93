use Rattle.audit_cli.proofs.HeadlineLemmas.{as_promised}
use Rattle.audit_cli.proofs.laws.rewriting_is_as_promised.Goals as goal

pub returns : goal.returns
returns c = as_promised
