use Rattle.std.proofs.Common.{List, ℕ, subst}
use Rattle.std.specs.Prelude.{IsTrue, ◌↔◌}
use Rattle.clause_model.specs.Clauses.{IsNew}
use Rattle.lrat_check.proofs.kept_clauses.is_new.Goals as goal

pub returns-clause-new : goal.returns-clause-new
returns-clause-new g c = λ clauses h. subst (λ (members : List ℕ). IsTrue c.is_new.result ↔ IsNew clauses members) c.in_ok-take_members.ensures (c.is_new.ensures.new clauses h)
