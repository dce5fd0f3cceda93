use Rattle.lrat_check.specs.declared.proof_fault.ProofFault.TheVariants.{Line as LineOf, Unfinished}
use Rattle.lrat_check.proofs.Sound.{proved_unsatisfied}
use Rattle.lrat_check.proofs.laws.proved_formulas_have_no_model.Goals as goal

pub returns : goal.returns
returns c = λ clauses lines p v e. proved_unsatisfied LineOf Unfinished clauses lines p v e
