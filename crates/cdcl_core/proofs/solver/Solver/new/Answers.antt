use Rattle.cdcl_core.proofs.Statements.{base_begun}
use Rattle.cdcl_core.proofs.solver.Solver.new.Goals as goal

pub returns-clause-base : goal.returns-clause-base
returns-clause-base c = base_begun c.args.variables _ _ _ _ c.in_ok-new.ensures c.new-2.ensures.items c.new-5.ensures.items c.new-4.ensures
