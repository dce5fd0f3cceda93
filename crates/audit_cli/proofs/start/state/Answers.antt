use mathlib.Core.Path.{fun_ext}
use Rattle.audit_cli.proofs.StartLemmas.{items_at}
use Rattle.audit_cli.proofs.start.state.Goals as goal

pub returns-clause-values : goal.returns-clause-values
returns-clause-values c = fun_ext items_at
