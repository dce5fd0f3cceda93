use Rattle.lrat_check.proofs.Views.{clause_at-some, clause_at-none}
use Rattle.lrat_check.proofs.propagation.HashMapU64VecLiteralClauses.clause.Goals as goal

pub returns-in-None : goal.returns-in-None
returns-in-None c = clause_at-none c.args.self.now c.args.id c.in-None.ensures.value

pub returns-in-Some : goal.returns-in-Some
returns-in-Some c = clause_at-some c.args.self.now c.args.id c.in-Some.clause.now _ c.in-Some.ensures.value c.as_slice.ensures.value
