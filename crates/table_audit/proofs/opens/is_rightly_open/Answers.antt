use Rattle.std.proofs.Common.{arith, refl, sym, subst, ap, ◌∙◌, ◌≡◌, ◌≤◌, Some, None, length, map}
use Rattle.std.proofs.lemmas.Bool.{false≢true}
use Rattle.window_exec.specs.State.{seen}
use Rattle.thumb_model.specs.Effect.{AreOver}
use Rattle.clause_model.specs.Clauses.{codes_of}
use Rattle.lrat_check.specs.Text.{content_of}
use Rattle.rule_table.specs.Views.{opened_of, rule_of, table_of}
use Rattle.lrat_check.specs.ProofCosts.{spent_cost}
use Rattle.table_audit.specs.Shorter.{formula_against, IsTold, below_at}
use Rattle.table_audit.proofs.Tellings.{told_is}
use Rattle.table_audit.proofs.Openings.{found, none_open, told_open, spent_answers, as_many, spent_within}
use Rattle.table_audit.proofs.Below.{run_within}
use Rattle.table_audit.proofs.opens.is_rightly_open.Goals as goal
use Rattle.rule_model.proofs.Table.{over_wider}

pub is_told-requires : goal.is_told-requires
is_told-requires g c = subst (AreOver 4) (sym c.as_slice.ensures.value) (over_wider c.args.k 4 c.in-Some.seq c.requires.few c.in-Some.ensures.over)

pub returns-in-None-clause-right : goal.returns-in-None-clause-right
returns-in-None-clause-right g c =
    let t = table_of c.args.table.now in
    let e = rule_of c.args.entry.now in
    let o = opened_of c.args.open.now in
    let at : below_at t.header e.left e.right o.number ≡ None = found t e o.number c.args.k _ c.requires.count c.below_at.ensures.value ∙ c.in-None.is in
    (λ h. absurd (false≢true h), λ right. absurd (none_open t e o at right))

pub returns-then-is_told-clause-right : goal.returns-then-is_told-clause-right
returns-then-is_told-clause-right g c =
    let t = table_of c.args.table.now in
    let e = rule_of c.args.entry.now in
    let o = opened_of c.args.open.now in
    let at : below_at t.header e.left e.right o.number ≡ Some c.in-Some.seq = found t e o.number c.args.k _ c.requires.count c.below_at.ensures.value ∙ c.in-Some.is in
    let states = told_is c.args.entry.now.left (map seen c.args.table.now.states) c.args.trials.now c.as_slice.result.now c.args.entry.now.mask.items.bits c.requires.trials in
    let told : IsTold t.states e.left c.in-Some.seq e.mask = subst (λ s. IsTold t.states e.left s e.mask) c.as_slice.ensures.value (states.0 (c.is_told.ensures.told.0 c.if-is_told.true)) in
    (λ h. absurd (false≢true h), λ right. absurd (told_open t e o c.in-Some.seq at told right))

pub returns-in_ok-formula-in-Some-clause-right : goal.returns-in_ok-formula-in-Some-clause-right
returns-in_ok-formula-in-Some-clause-right g c =
    let t = table_of c.args.table.now in
    let e = rule_of c.args.entry.now in
    let o = opened_of c.args.open.now in
    let at : below_at t.header e.left e.right o.number ≡ Some c.in-Some.seq = found t e o.number c.args.k _ c.requires.count c.below_at.ensures.value ∙ c.in-Some.is in
    let states = told_is c.args.entry.now.left (map seen c.args.table.now.states) c.args.trials.now c.as_slice.result.now c.args.entry.now.mask.items.bits c.requires.trials in
    let untold : IsTold t.states e.left c.in-Some.seq e.mask → ⊥ = λ h.
    false≢true (sym c.if-is_told.false ∙ c.is_told.ensures.told.1 (states.1 (subst (λ s. IsTold t.states e.left s e.mask) (sym c.as_slice.ensures.value) h))) in
    spent_answers t e o c.in-Some.seq _ _ _ c.is_spent.result at untold refl (ap (λ f. codes_of f.clauses) c.in_ok-formula-in-Some.ensures) (ap (map content_of) c.deref.ensures.value) c.is_spent.ensures.spent

pub returns-in_ok-formula-in-Some-clause-cost : goal.returns-in_ok-formula-in-Some-clause-cost
returns-in_ok-formula-in-Some-clause-cost g c =
    let t = table_of c.args.table.now in
    let e = rule_of c.args.entry.now in
    let o = opened_of c.args.open.now in
    let at : below_at t.header e.left e.right o.number ≡ Some c.in-Some.seq = found t e o.number c.args.k _ c.requires.count c.below_at.ensures.value ∙ c.in-Some.is in
    let short : length c.as_slice.result.now ≤ length c.args.entry.now.left = omega (arith, ap length c.as_slice.ensures.value, c.in-Some.ensures.no_longer) in
    spent_within t e o c.in-Some.seq _ _ _ _ _ _ at (as_many c.args.entry.now.left (map seen c.args.table.now.states) c.args.trials.now c.requires.trials) short c.is_told.ensures.cost c.is_spent.ensures.cost
    (ap (λ f. spent_cost (codes_of f.clauses) (map content_of c.deref.result.now)) c.in_ok-formula-in-Some.ensures ∙ ap (λ ls. spent_cost (codes_of (formula_against t.header e c.in-Some.seq).clauses) (map content_of ls)) c.deref.ensures.value)

pub returns-then-is_told-clause-cost : goal.returns-then-is_told-clause-cost
returns-then-is_told-clause-cost g c =
    let t = table_of c.args.table.now in
    let e = rule_of c.args.entry.now in
    let o = opened_of c.args.open.now in
    let at : below_at t.header e.left e.right o.number ≡ Some c.in-Some.seq = found t e o.number c.args.k _ c.requires.count c.below_at.ensures.value ∙ c.in-Some.is in
    let short : length c.as_slice.result.now ≤ length c.args.entry.now.left = omega (arith, ap length c.as_slice.ensures.value, c.in-Some.ensures.no_longer) in
    let within = run_within t e o.number c.in-Some.seq _ _ _ _ at (as_many c.args.entry.now.left (map seen c.args.table.now.states) c.args.trials.now c.requires.trials) short c.is_told.ensures.cost in
    omega (arith, within)

pub returns-in_err-formula-in-Some-clause-cost : goal.returns-in_err-formula-in-Some-clause-cost
returns-in_err-formula-in-Some-clause-cost g c =
    let t = table_of c.args.table.now in
    let e = rule_of c.args.entry.now in
    let o = opened_of c.args.open.now in
    let at : below_at t.header e.left e.right o.number ≡ Some c.in-Some.seq = found t e o.number c.args.k _ c.requires.count c.below_at.ensures.value ∙ c.in-Some.is in
    let short : length c.as_slice.result.now ≤ length c.args.entry.now.left = omega (arith, ap length c.as_slice.ensures.value, c.in-Some.ensures.no_longer) in
    let within = run_within t e o.number c.in-Some.seq _ _ _ _ at (as_many c.args.entry.now.left (map seen c.args.table.now.states) c.args.trials.now c.requires.trials) short c.is_told.ensures.cost in
    omega (arith, within)
