use Rattle.std.proofs.Common.{rules}
use Rattle.lrat_check.proofs.Checks.{passed_accepted, stopped_refused}
use Rattle.lrat_check.proofs.logs.are_accepted.Goals as goal

pub returns-clause-accepted : goal.returns-clause-accepted
returns-clause-accepted g c = search (rules, passed_accepted, stopped_refused)
