use Rattle.std.proofs.Common.{◌∷◌, [], ℤ, Vec, Global}
use Rattle.std.proofs.lemmas.List.{map-append}
use Rattle.cnf_gates.proofs.Literals.{AreClausesOf-push}
use Rattle.cnf_gates.proofs.builder.Builder.or_clause.Goals as goal

pub invariant_of-self : goal.invariant_of-self
invariant_of-self c = (
  c.self.invariant.0,
  rw c.in_ok-push.ensures.items (rw (map-append (λ (v : Vec ℤ Global). v.items) c.self.inside.clauses.items (c.in-Some.clause ∷ [])) (AreClausesOf-push 200000 _ _ c.self.invariant.1 (rw c.in-Some.is at c.in_ok-clause.ensures.literals))),
)
