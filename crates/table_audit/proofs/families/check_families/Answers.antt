use Rattle.std.proofs.Common.{subst, ◌≡◌, slice_get, Some, map}
use Rattle.rule_table.specs.Views.{family_of, table_of}
use Rattle.lrat_check.proofs.Turns.{turn_step, turn_failed}
use Rattle.table_audit.specs.declared.errors.AuditError.TheVariants.{Memory}
use Rattle.table_audit.specs.Acceptance.{FamilyVerdict}
use Rattle.table_audit.specs.Costs.{family_cost}
use Rattle.table_audit.proofs.Answering.{handed_on}
use Rattle.table_audit.proofs.Counting.{entries_next, entries_stop}
use Rattle.table_audit.proofs.Tellings.{listed}
use Rattle.table_audit.proofs.families.check_families.Goals as goal

pub returns-in_err-check_family-clause-answers : goal.returns-in_err-check_family-clause-answers
returns-in_err-check_family-clause-answers g c =
    let at : slice_get (map family_of c.args.table.now.families.items) c.loop-place.place ≡ Some (family_of c.family-item.result) =
    subst (λ fs. slice_get (map family_of fs) c.loop-place.place ≡ Some (family_of c.family-item.result)) c.deref-family-items.ensures.value (listed family_of _ c.loop-place.place c.family-item.result c.loop-place-test.true c.family-item.is) in
    handed_on Memory c.in_err-check_family.field-0.0 c.from_residual.result _ c.from_residual.ensures.1
    (turn_failed (FamilyVerdict (table_of c.args.table.now)) _ _ c.loop-place.place _ _ c.in_err-check_family.field-0.0 Memory at c.loop-place.invariant.rest c.in_err-check_family.ensures.answers)

pub returns-in_err-check_family-clause-cost : goal.returns-in_err-check_family-clause-cost
returns-in_err-check_family-clause-cost g c =
    let at : slice_get (map family_of c.args.table.now.families.items) c.loop-place.place ≡ Some (family_of c.family-item.result) =
    subst (λ fs. slice_get (map family_of fs) c.loop-place.place ≡ Some (family_of c.family-item.result)) c.deref-family-items.ensures.value (listed family_of _ c.loop-place.place c.family-item.result c.loop-place-test.true c.family-item.is) in
    entries_stop (family_cost (table_of c.args.table.now)) _ c.loop-place.place _ _ _ _ at c.loop-place.invariant.cost c.check_family.ensures.cost

pub loop-place-preserved : goal.loop-place-preserved
loop-place-preserved g c =
    let at : slice_get (map family_of c.args.table.now.families.items) c.loop-place.place ≡ Some (family_of c.family-item.result) =
    subst (λ fs. slice_get (map family_of fs) c.loop-place.place ≡ Some (family_of c.family-item.result)) c.deref-family-items.ensures.value (listed family_of _ c.loop-place.place c.family-item.result c.loop-place-test.true c.family-item.is) in
    record {
      rest = turn_step (FamilyVerdict (table_of c.args.table.now)) _ _ c.loop-place.place _ _ at c.loop-place.invariant.rest c.in_ok-check_family.ensures.answers;
      cost = entries_next (family_cost (table_of c.args.table.now)) _ c.loop-place.place _ _ _ _ at c.loop-place.invariant.cost c.check_family.ensures.cost;
    }
