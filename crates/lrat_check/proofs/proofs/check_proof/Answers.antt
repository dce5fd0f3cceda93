use Rattle.std.proofs.Common.{rules, None}
use Rattle.clause_model.specs.Clauses.{codes_of}
use Rattle.lrat_check.specs.declared.proof_fault.ProofFault.TheVariants.{Line as LineOf, Unfinished}
use Rattle.lrat_check.specs.Runs.{contents_of}
use Rattle.lrat_check.specs.Proofs.{ProofVerdict}
use Rattle.lrat_check.proofs.Sound.{proved_unsatisfied}
use Rattle.lrat_check.proofs.proofs.check_proof.Goals as goal

pub returns-then-refuted-clause-sound : goal.returns-then-refuted-clause-sound
returns-then-refuted-clause-sound g c = λ v e.
    let passes : ProofVerdict LineOf Unfinished (codes_of c.args.formula.now.clauses) (contents_of c.args.lines.now) None = search rules in
    proved_unsatisfied LineOf Unfinished c.args.formula.now.clauses (contents_of c.args.lines.now) passes v e
