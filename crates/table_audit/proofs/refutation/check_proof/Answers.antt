use Rattle.std.proofs.Common.{ap, map, refl}
use Rattle.clause_model.specs.Clauses.{codes_of}
use Rattle.lrat_check.specs.Text.{content_of}
use Rattle.rule_table.specs.Views.{header_in, rule_of}
use Rattle.table_audit.specs.Shorter.{alphabet_registers, formula_of}
use Rattle.table_audit.specs.Faults.{fault_of}
use Rattle.table_audit.proofs.Answering.{proof_passed, proof_failed, unshortened_passes}
use Rattle.table_audit.proofs.refutation.check_proof.Goals as goal

pub returns-in-Ok-clause-answers : goal.returns-in-Ok-clause-answers
returns-in-Ok-clause-answers g c =
    proof_passed (fault_of c.args.number) _ (codes_of (formula_of (header_in c.args.table.now) (rule_of c.args.entry.now)).clauses) _ (rule_of c.args.entry.now).proof (ap (λ f. codes_of f.clauses) c.in_ok-formula.ensures) (ap (map content_of) c.deref.ensures.value) c.in-Ok.ensures.answers

pub returns-clause-answers : goal.returns-clause-answers
returns-clause-answers g c =
    proof_failed (fault_of c.args.number) _ (codes_of (formula_of (header_in c.args.table.now) (rule_of c.args.entry.now)).clauses) _ (rule_of c.args.entry.now).proof c.in-Err.fault _ refl (ap (λ f. codes_of f.clauses) c.in_ok-formula.ensures) (ap (map content_of) c.deref.ensures.value) c.fault_of.ensures c.in-Err.ensures.answers

pub returns-then-is_unshortened-clause-answers : goal.returns-then-is_unshortened-clause-answers
returns-then-is_unshortened-clause-answers g c =
    let e = rule_of c.args.entry.now in
    unshortened_passes (fault_of c.args.number) e.left e.right e.mask (alphabet_registers (header_in c.args.table.now) e.left) e.proof c.requires.right (c.is_unshortened.ensures.sides c.if-is_unshortened.true) (c.is_unshortened.ensures.proof c.if-is_unshortened.true)
