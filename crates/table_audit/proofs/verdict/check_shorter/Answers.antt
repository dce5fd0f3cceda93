use Rattle.std.proofs.Common.{◌≡◌, ℕ, ◌≤◌, ◌+◌, ◌*◌, ◌∙◌, ap, arith, length, map, subst, sym, sum_by}
use Rattle.std.proofs.lemmas.List.{length-map}
use Rattle.thumb_model.specs.Effect.{AreOver}
use Rattle.window_exec.specs.State.{seen}
use Rattle.rule_table.specs.Views.{opened_of, rule_of, table_of}
use Rattle.table_audit.specs.Costs.{open_cost}
use Rattle.table_audit.proofs.Covering.{entry_within}
use Rattle.table_audit.proofs.Fitting.{ordered_of}
use Rattle.table_audit.proofs.verdict.check_shorter.Goals as goal
use Rattle.rule_model.proofs.Table.{over_wider}

-- the runs of the left side, counted by the code's own lists
first_runs : (a b u v l m : ℕ) → m ≡ l → v ≡ u → b ≤ a + v * m → b ≤ a + u * l
first_runs a b u v l m e f h = omega (arith, h, ap (λ n. v * n) e ∙ ap (λ n. n * l) f)

pub trials_of-requires : goal.trials_of-requires
trials_of-requires g c =
    subst (AreOver 4) (sym c.as_slice.ensures.value) (over_wider _ 4 c.args.entry.now.left (ordered_of c.args.entry.now.left c.requires.formula.canonical).few c.requires.formula.left)

pub returns-in_err-check_told-clause-cost : goal.returns-in_err-check_told-clause-cost
returns-in_err-check_told-clause-cost g c =
    let left = ap length c.as_slice.ensures.value in
    let states = ap length c.as_slice-2.ensures in
    let logs = sum_by (open_cost (table_of c.args.table.now) (rule_of c.args.entry.now)) (map opened_of c.args.entry.now.opens.items) in
    entry_within (table_of c.args.table.now) (rule_of c.args.entry.now) (length c.args.table.now.states) c.args.steps.now c.trials_of.new.steps c.check_told.new.steps c.check_told.new.steps logs
    (sym (length-map c.args.table.now.states seen)) c.requires.states (first_runs _ _ _ _ _ _ left states c.trials_of.ensures.cost) c.check_told.ensures.cost (omega arith)

pub returns-clause-cost : goal.returns-clause-cost
returns-clause-cost g c =
    let left = ap length c.as_slice.ensures.value in
    let states = ap length c.as_slice-2.ensures in
    let logs = sum_by (open_cost (table_of c.args.table.now) (rule_of c.args.entry.now)) (map opened_of c.args.entry.now.opens.items) in
    entry_within (table_of c.args.table.now) (rule_of c.args.entry.now) (length c.args.table.now.states) c.args.steps.now c.trials_of.new.steps c.check_told.new.steps c.check_opens.new.steps logs
    (sym (length-map c.args.table.now.states seen)) c.requires.states (first_runs _ _ _ _ _ _ left states c.trials_of.ensures.cost) c.check_told.ensures.cost c.check_opens.ensures.cost
