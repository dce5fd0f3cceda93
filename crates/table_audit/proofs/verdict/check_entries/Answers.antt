use Rattle.std.proofs.Common.{subst, ◌≡◌, slice_get, Some, map}
use Rattle.std.proofs.lemmas.Option.{get_or_from_slice_get, slice_get_within}
use Rattle.rule_table.specs.Table.{IsRule}
use Rattle.rule_table.specs.Views.{rule_of, table_of}
use Rattle.lrat_check.proofs.Turns.{turn_step, turn_failed}
use Rattle.table_audit.specs.declared.errors.AuditError.TheVariants.{Memory}
use Rattle.table_audit.specs.Acceptance.{EntryVerdict}
use Rattle.table_audit.specs.Costs.{entry_cost}
use Rattle.table_audit.proofs.Answering.{handed_on}
use Rattle.table_audit.proofs.Counting.{entries_next, entries_stop}
use Rattle.table_audit.proofs.Tellings.{listed}
use Rattle.table_audit.proofs.verdict.check_entries.Goals as goal

pub check_entry-requires-clause-ascending : goal.check_entry-requires-clause-ascending
check_entry-requires-clause-ascending g c =
    let at : slice_get (map rule_of c.args.table.now.entries.items) c.loop-place.place ≡ Some (rule_of c.entry-item.result) =
    subst (λ es. slice_get (map rule_of es) c.loop-place.place ≡ Some (rule_of c.entry-item.result)) c.deref-entry-items.ensures.value (listed rule_of _ c.loop-place.place c.entry-item.result c.loop-place-test.true c.entry-item.is) in
    let low = slice_get_within (map rule_of c.args.table.now.entries.items) c.loop-place.place (rule_of c.entry-item.result) at in
    let rule : IsRule (rule_of c.entry-item.result) =
    subst IsRule (get_or_from_slice_get (map rule_of c.args.table.now.entries.items) c.loop-place.place (rule_of c.entry-item.result) (rule_of c.entry-item.result) at) (c.requires.table.rules c.loop-place.place (rule_of c.entry-item.result) low) in
    rule.ascending

pub returns-in_err-check_entry-clause-answers : goal.returns-in_err-check_entry-clause-answers
returns-in_err-check_entry-clause-answers g c =
    let at : slice_get (map rule_of c.args.table.now.entries.items) c.loop-place.place ≡ Some (rule_of c.entry-item.result) =
    subst (λ es. slice_get (map rule_of es) c.loop-place.place ≡ Some (rule_of c.entry-item.result)) c.deref-entry-items.ensures.value (listed rule_of _ c.loop-place.place c.entry-item.result c.loop-place-test.true c.entry-item.is) in
    handed_on Memory c.in_err-check_entry.field-0.0 c.from_residual.result _ c.from_residual.ensures.1
    (turn_failed (EntryVerdict (table_of c.args.table.now)) _ _ c.loop-place.place _ _ c.in_err-check_entry.field-0.0 Memory at c.loop-place.invariant.rest c.in_err-check_entry.ensures.answers)

pub returns-in_err-check_entry-clause-cost : goal.returns-in_err-check_entry-clause-cost
returns-in_err-check_entry-clause-cost g c =
    let at : slice_get (map rule_of c.args.table.now.entries.items) c.loop-place.place ≡ Some (rule_of c.entry-item.result) =
    subst (λ es. slice_get (map rule_of es) c.loop-place.place ≡ Some (rule_of c.entry-item.result)) c.deref-entry-items.ensures.value (listed rule_of _ c.loop-place.place c.entry-item.result c.loop-place-test.true c.entry-item.is) in
    entries_stop (entry_cost (table_of c.args.table.now)) _ c.loop-place.place _ _ _ _ at c.loop-place.invariant.cost c.check_entry.ensures.cost

pub loop-place-preserved : goal.loop-place-preserved
loop-place-preserved g c =
    let at : slice_get (map rule_of c.args.table.now.entries.items) c.loop-place.place ≡ Some (rule_of c.entry-item.result) =
    subst (λ es. slice_get (map rule_of es) c.loop-place.place ≡ Some (rule_of c.entry-item.result)) c.deref-entry-items.ensures.value (listed rule_of _ c.loop-place.place c.entry-item.result c.loop-place-test.true c.entry-item.is) in
    record {
      kept = c.check_entry.ensures.kept;
      rest = turn_step (EntryVerdict (table_of c.args.table.now)) _ _ c.loop-place.place _ _ at c.loop-place.invariant.rest c.in_ok-check_entry.ensures.answers;
      cost = entries_next (entry_cost (table_of c.args.table.now)) _ c.loop-place.place _ _ _ _ at c.loop-place.invariant.cost c.check_entry.ensures.cost;
    }
