use Rattle.std.proofs.Common.{◌≡◌, rules, refl, subst, map}
use Rattle.lrat_check.specs.Text.{content_of}
use Rattle.rule_table.specs.Views.{family_of, header_in, rule_of}
use Rattle.cdcl_core.specs.Solved.{VerdictOf}
use Rattle.cdcl_core.specs.declared.solving.Verdict.TheVariants.{Unsat, Spent}
use Rattle.table_audit.specs.Families.{raised_formula}
use Rattle.table_learn.proofs.Asking.{refutes, spends}
use Rattle.table_learn.proofs.Certificates.{search_spends}
use Rattle.audit_cli.proofs.raising.prove.Goals as goal

pub returns-in-Ok-Unsat-clause-proved : goal.returns-in-Ok-Unsat-clause-proved
returns-in-Ok-Unsat-clause-proved g c =
    let budget = c.args.table.now.budget in
    let formula = raised_formula (header_in c.args.table.now) (family_of c.args.family.now) (rule_of c.args.entry.now) in
    let is : c.in-Ok-Unsat.field-0 ≡ Unsat c.in-Ok-Unsat.log = search rules in
    (refutes budget formula formula c.in-Ok-Unsat.log refl c.in-Ok-Unsat.ensures.few (subst (VerdictOf formula budget) is c.in-Ok-Unsat.ensures.found)).0

pub returns-in-Ok-Unsat-clause-lines : goal.returns-in-Ok-Unsat-clause-lines
returns-in-Ok-Unsat-clause-lines g c =
    let budget = c.args.table.now.budget in
    let formula = raised_formula (header_in c.args.table.now) (family_of c.args.family.now) (rule_of c.args.entry.now) in
    let is : c.in-Ok-Unsat.field-0 ≡ Unsat c.in-Ok-Unsat.log = search rules in
    (refutes budget formula formula c.in-Ok-Unsat.log refl c.in-Ok-Unsat.ensures.few (subst (VerdictOf formula budget) is c.in-Ok-Unsat.ensures.found)).1

pub returns-in-Ok-Spent-clause-fault : goal.returns-in-Ok-Spent-clause-fault
returns-in-Ok-Spent-clause-fault g c =
    let budget = c.args.table.now.budget in
    let formula = raised_formula (header_in c.args.table.now) (family_of c.args.family.now) (rule_of c.args.entry.now) in
    let is : c.in-Ok-Spent.field-0 ≡ Spent c.in-Ok-Spent.log = search rules in
    let log = spends budget formula formula c.in-Ok-Spent.log refl c.in-Ok-Spent.ensures.few (subst (VerdictOf formula budget) is c.in-Ok-Spent.ensures.found) in
    record { entry = rule_of c.args.entry.now; raisable = c.requires.raisable; spent = search_spends budget formula (map content_of c.in-Ok-Spent.log.items) log.0 }
