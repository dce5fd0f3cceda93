use Rattle.std.proofs.Common.{ap, map, refl}
use Rattle.clause_model.specs.Clauses.{codes_of}
use Rattle.lrat_check.specs.Text.{content_of}
use Rattle.rule_table.specs.Views.{family_of, header_in, rule_of}
use Rattle.table_audit.specs.Families.{raised_formula}
use Rattle.table_audit.specs.Faults.{raised_fault}
use Rattle.table_audit.proofs.Answering.{proof_passed, proof_failed}
use Rattle.table_audit.proofs.families.check_proof.Goals as goal

pub returns-in-Ok-clause-answers : goal.returns-in-Ok-clause-answers
returns-in-Ok-clause-answers g c =
    proof_passed (raised_fault c.args.number) _ (codes_of (raised_formula (header_in c.args.table.now) (family_of c.args.family.now) (rule_of c.args.entry.now)).clauses) _ (family_of c.args.family.now).proof
    (ap (λ f. codes_of f.clauses) c.in_ok-formula.ensures) (ap (map content_of) c.deref.ensures.value) c.in-Ok.ensures.answers

pub returns-clause-answers : goal.returns-clause-answers
returns-clause-answers g c =
    proof_failed (raised_fault c.args.number) _ (codes_of (raised_formula (header_in c.args.table.now) (family_of c.args.family.now) (rule_of c.args.entry.now)).clauses) _ (family_of c.args.family.now).proof
    c.in-Err.fault _ refl (ap (λ f. codes_of f.clauses) c.in_ok-formula.ensures) (ap (map content_of) c.deref.ensures.value) c.raised_fault.ensures c.in-Err.ensures.answers
