use Rattle.lrat_check.specs.declared.proof_fault.ProofFault.TheVariants.{Line as LineOf, Unfinished}
use Rattle.lrat_check.proofs.Determined.{proof_one}
use Rattle.lrat_check.proofs.laws.proofs_have_one_answer.Goals as goal

pub returns : goal.returns
returns c = λ clauses lines a b p q. (proof_one LineOf Unfinished clauses lines).same a b p q
