use Rattle.std.proofs.Common.{ℕ, List, [], ◌∷◌, ◌++◌, Option, inl, inr, map}
use Rattle.clause_model.specs.Clauses.{negated, Refutes}
use Rattle.cdcl_core.specs.Solved.{RefutesTidily}
use Rattle.cdcl_core.proofs.laws.tidy_hints_are_accepted.Goals as goal

tidy_refutes : (live : ℕ → Option (List ℕ)) (a hints : List ℕ) → RefutesTidily live a hints → Refutes live a hints
tidy_refutes live a [] r = r
tidy_refutes live a (id ∷ hints) r = (r.0, r.1, elim r.3 [ inl f ↦ inl f.0 | inr w ↦ inr (w.0, w.1, tidy_refutes live (a ++ w.0 ∷ []) hints w.3) ])

pub returns : goal.returns
returns c = λ live clause hints t. tidy_refutes live (map negated clause) hints t
