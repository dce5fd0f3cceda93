use Rattle.step_ledger.proofs.Rises.{at_least-fewer, at_least-ticks}
use Rattle.cdcl_core.specs.Costs.{conflicts_in}
use Rattle.cdcl_core.proofs.Endings.{one_at_most}
use Rattle.cdcl_core.proofs.Searches.{ends_onto, goes_onto}
use Rattle.cdcl_core.proofs.solver.Solver.search.Goals as goal

pub decide-requires-clause-rule : goal.decide-requires-clause-rule
decide-requires-clause-rule g c = c.in_ok-settle.ensures.rule c.in-None.is

pub returns-in_ok-ending-in-Some-clause-ends : goal.returns-in_ok-ending-in-Some-clause-ends
returns-in_ok-ending-in-Some-clause-ends g c = ends_onto c.args.self.now c.settle.new.self c.in_ok-settle.ensures.clauses c.in_ok-settle.ensures.grows c.args.id c.settle.new.self.trail c.in_ok-ending-in-Some.ending c.in_ok-settle.ensures.fields c.in_ok-ending-in-Some.ensures.ends

pub returns-in_ok-ending-in-Some-clause-goes_on : goal.returns-in_ok-ending-in-Some-clause-goes_on
returns-in_ok-ending-in-Some-clause-goes_on g c = goes_onto c.args.self.now c.settle.new.self c.in_ok-settle.ensures.clauses c.in_ok-settle.ensures.grows c.settle.new.self c.in_ok-ending-in-Some.ending c.in_ok-ending-in-Some.ensures.goes_on

pub returns-in_ok-ending-in-Some-clause-rises : goal.returns-in_ok-ending-in-Some-clause-rises
returns-in_ok-ending-in-Some-clause-rises g c = at_least-fewer _ _ 1 (conflicts_in c.in_ok-ending-in-Some.ending) (one_at_most c.in_ok-ending-in-Some.ending) (at_least-ticks _ _ c.tick.ensures)

pub returns-in_ok-ending-in-None-clause-ends : goal.returns-in_ok-ending-in-None-clause-ends
returns-in_ok-ending-in-None-clause-ends g c = ends_onto c.args.self.now c.settle.new.self c.in_ok-settle.ensures.clauses c.in_ok-settle.ensures.grows c.args.id c.decide.new.self.trail c.in_ok-ending-in-None.ending c.in_ok-settle.ensures.fields c.in_ok-ending-in-None.ensures.ends

pub returns-in_ok-ending-in-None-clause-goes_on : goal.returns-in_ok-ending-in-None-clause-goes_on
returns-in_ok-ending-in-None-clause-goes_on g c = goes_onto c.args.self.now c.settle.new.self c.in_ok-settle.ensures.clauses c.in_ok-settle.ensures.grows c.decide.new.self c.in_ok-ending-in-None.ending c.in_ok-ending-in-None.ensures.goes_on
