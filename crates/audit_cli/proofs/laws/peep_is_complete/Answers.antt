use Rattle.audit_cli.proofs.CompleteLemmas.{complete, complete_but_for_full}
use Rattle.audit_cli.proofs.laws.peep_is_complete.Goals as goal

pub returns-clause-complete : goal.returns-clause-complete
returns-clause-complete c = complete

pub returns-clause-full : goal.returns-clause-full
returns-clause-full c = complete_but_for_full
