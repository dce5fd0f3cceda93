use Rattle.std.proofs.Common.{◌∷◌, [], ℤ, Vec, Global}
use Rattle.std.proofs.lemmas.List.{map-append}
use Rattle.cnf_gates.proofs.Literals.{AreClausesOf-push}
use Rattle.cnf_gates.proofs.formula.Formula.push_clause.Goals as goal

pub invariant_of-self-2 : goal.invariant_of-self-2
invariant_of-self-2 c = (
  c.self.invariant.0,
  rw c.in_ok-push.ensures.items (rw (map-append (λ (v : Vec ℤ Global). v.items) c.self.inside.clauses.items (c.args.clause ∷ [])) (AreClausesOf-push 200000 _ _ c.self.invariant.1 c.requires)),
)
