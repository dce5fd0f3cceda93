use Rattle.std.proofs.Common.{subst}
use Rattle.cdcl_core.specs.Implied.{clauses_of}
use Rattle.cdcl_core.specs.Searched.{HasBase}
use Rattle.cdcl_core.proofs.Adopted.{base_later, base_here, same_grows}
use Rattle.cdcl_core.proofs.Lists.{grown_from_keeps}
use Rattle.cdcl_core.proofs.solver.Solver.settle.Goals as goal

pub returns-in_ok-self-in-None-clause-ready : goal.returns-in_ok-self-in-None-clause-ready
returns-in_ok-self-in-None-clause-ready c =
    let s = c.args.self.now in
    record {
      base = base_here (base_later (clauses_of s.arena) _ s.arena s.refs.items s.reasons.items s.trail (subst (HasBase (clauses_of s.arena) s) c.in-None.is c.requires.base) c.propagate.new.arena c.propagate.new.reasons.items c.propagate.new.assignment c.in_ok-self-in-None.ensures.later _ (λ _. c.len-trues.ensures.consistent) c.in_ok-self-in-None.ensures.conflict);
      ids = c.requires.ids;
      variables = c.requires.variables;
    }

pub returns-in-Some-clause-grows : goal.returns-in-Some-clause-grows
returns-in-Some-clause-grows c = same_grows c.args.self.now.trail

pub returns-in_ok-self-in-None-clause-grows : goal.returns-in_ok-self-in-None-clause-grows
returns-in_ok-self-in-None-clause-grows c = grown_from_keeps c.args.self.now.trail c.propagate.new.assignment c.in_ok-self-in-None.ensures.later.prefix
