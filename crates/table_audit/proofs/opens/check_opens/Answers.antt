use Rattle.std.proofs.Common.{inr, refl, sym, subst, ◌∙◌, ◌≡◌, slice_get, Some, map}
use Rattle.std.proofs.lemmas.Bool.{false≢true}
use Rattle.rule_table.specs.Views.{opened_of, rule_of, table_of}
use Rattle.lrat_check.proofs.Turns.{turn_step, turn_fault}
use Rattle.table_audit.specs.Acceptance.{OpenTest}
use Rattle.table_audit.proofs.Tellings.{listed}
use Rattle.table_audit.proofs.Counting.{entries_next, entries_stop, entries_end}
use Rattle.table_audit.proofs.Openings.{both_costs, within_opens}
use Rattle.table_audit.proofs.opens.check_opens.Goals as goal

pub returns-in_err-is_rightly_open-clause-cost : goal.returns-in_err-is_rightly_open-clause-cost
returns-in_err-is_rightly_open-clause-cost g c =
    let at : slice_get (map opened_of c.args.entry.now.opens.items) c.loop-open.open-index ≡ Some (opened_of c.open-item.result) =
    subst (λ os. slice_get (map opened_of os) c.loop-open.open-index ≡ Some (opened_of c.open-item.result)) c.deref-open-items.ensures.value (listed opened_of _ c.loop-open.open-index c.open-item.result c.loop-open-test.true c.open-item.is) in
    within_opens (table_of c.args.table.now) (rule_of c.args.entry.now) _ _ c.requires.formula.canonical.renamable.few c.requires.ascending
    (entries_stop (both_costs (table_of c.args.table.now) (rule_of c.args.entry.now)) _ c.loop-open.open-index _ _ _ (opened_of c.open-item.result) at c.loop-open.invariant.cost c.is_rightly_open.ensures.cost)

pub returns-then-not-branch-clause-answers : goal.returns-then-not-branch-clause-answers
returns-then-not-branch-clause-answers g c =
    let at : slice_get (map opened_of c.args.entry.now.opens.items) c.loop-open.open-index ≡ Some (opened_of c.open-item.result) =
    subst (λ os. slice_get (map opened_of os) c.loop-open.open-index ≡ Some (opened_of c.open-item.result)) c.deref-open-items.ensures.value (listed opened_of _ c.loop-open.open-index c.open-item.result c.loop-open-test.true c.open-item.is) in
    inr (turn_fault (OpenTest (table_of c.args.table.now) c.args.number (rule_of c.args.entry.now)) _ _ c.loop-open.open-index _ _ _ at c.loop-open.invariant.rest
    (refl, λ right. false≢true (sym c.if-not-branch.true ∙ c.in_ok-is_rightly_open.ensures.right.1 right)))

pub returns-then-not-branch-clause-cost : goal.returns-then-not-branch-clause-cost
returns-then-not-branch-clause-cost g c =
    let at : slice_get (map opened_of c.args.entry.now.opens.items) c.loop-open.open-index ≡ Some (opened_of c.open-item.result) =
    subst (λ os. slice_get (map opened_of os) c.loop-open.open-index ≡ Some (opened_of c.open-item.result)) c.deref-open-items.ensures.value (listed opened_of _ c.loop-open.open-index c.open-item.result c.loop-open-test.true c.open-item.is) in
    within_opens (table_of c.args.table.now) (rule_of c.args.entry.now) _ _ c.requires.formula.canonical.renamable.few c.requires.ascending
    (entries_stop (both_costs (table_of c.args.table.now) (rule_of c.args.entry.now)) _ c.loop-open.open-index _ _ _ (opened_of c.open-item.result) at c.loop-open.invariant.cost c.is_rightly_open.ensures.cost)

pub loop-open-preserved : goal.loop-open-preserved
loop-open-preserved g c =
    let at : slice_get (map opened_of c.args.entry.now.opens.items) c.loop-open.open-index ≡ Some (opened_of c.open-item.result) =
    subst (λ os. slice_get (map opened_of os) c.loop-open.open-index ≡ Some (opened_of c.open-item.result)) c.deref-open-items.ensures.value (listed opened_of _ c.loop-open.open-index c.open-item.result c.loop-open-test.true c.open-item.is) in
    let right = c.in_ok-is_rightly_open.ensures.right.0 c.if-not-branch.false in
    record {
      rest = turn_step (OpenTest (table_of c.args.table.now) c.args.number (rule_of c.args.entry.now)) _ _ c.loop-open.open-index _ _ at c.loop-open.invariant.rest right;
      cost = entries_next (both_costs (table_of c.args.table.now) (rule_of c.args.entry.now)) _ c.loop-open.open-index _ _ _ (opened_of c.open-item.result) at c.loop-open.invariant.cost c.is_rightly_open.ensures.cost;
    }

pub returns-clause-cost : goal.returns-clause-cost
returns-clause-cost g c =
    within_opens (table_of c.args.table.now) (rule_of c.args.entry.now) _ _ c.requires.formula.canonical.renamable.few c.requires.ascending
    (entries_end (both_costs (table_of c.args.table.now) (rule_of c.args.entry.now)) _ c.loop-open.open-index _ _ c.loop-open.invariant.cost)
