use Rattle.cnf_gates.proofs.Distinct.{distinct_onto-nothing}
use Rattle.cnf_gates.proofs.clauses.distinct.Goals as goal

pub loop-literal-init : goal.loop-literal-init
loop-literal-init c = rw c.new-kept.ensures.items (distinct_onto-nothing c.args.literals.now)
