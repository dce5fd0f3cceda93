use Rattle.lrat_check.proofs.Views.{clause_at-insert}
use Rattle.lrat_check.proofs.checker.insert.Goals as goal

pub returns-clause-ok : goal.returns-clause-ok
returns-clause-ok c = clause_at-insert c.args.live.now c.insert.new.self c.args.id c.args.literals c.in_ok-insert.ensures.updates
