use Rattle.std.proofs.Common.{◌∙◌, ◌+◌, ap, min}
use Rattle.rule_table.specs.Views.{rule_of, table_of}
use Rattle.table_audit.proofs.Fitting.{fits, formula_fits}
use Rattle.table_audit.proofs.sides.sides_fit.Goals as goal

pub returns-in-Some-clause-fit : goal.returns-in-Some-clause-fit
returns-in-Some-clause-fit c =
    let same = fits (table_of c.args.table.now) (rule_of c.args.entry.now) c.in-Some.k _ c.in-Some.ensures.short c.in-Some.ensures.value.0 c.in-Some.ensures.value.1 (c.with_scratch.ensures ∙ ap (λ k. min (k + c.args.table.now.scratch) 4) c.in-Some.ensures.value.1) in
    (λ h. same.0 (c.are_within.ensures.0 h), λ f. c.are_within.ensures.1 (same.1 f))

pub returns-in-Some-clause-formula : goal.returns-in-Some-clause-formula
returns-in-Some-clause-formula c h =
    let same = fits (table_of c.args.table.now) (rule_of c.args.entry.now) c.in-Some.k _ c.in-Some.ensures.short c.in-Some.ensures.value.0 c.in-Some.ensures.value.1 (c.with_scratch.ensures ∙ ap (λ k. min (k + c.args.table.now.scratch) 4) c.in-Some.ensures.value.1) in
    formula_fits (table_of c.args.table.now) (rule_of c.args.entry.now) (same.0 (c.are_within.ensures.0 h))
