use Rattle.std.proofs.Common.{◌≡◌, ◌∙◌, rules, ap, sym, subst, None, Some}
use Rattle.std.specs.Option.{option_map}
use Rattle.rule_table.specs.Views.{rule_of, family_of, table_of}
use Rattle.table_audit.specs.Families.{entry_of}
use Rattle.audit_cli.specs.Commands.{export_arguments_of}
use Rattle.audit_cli.specs.Tables.{ExportsFamily, raises_none, raises_unfit, unraisable, raised}
use Rattle.audit_cli.proofs.StepLemmas.{ok_so}
use Rattle.audit_cli.proofs.export.family_outcome.Goals as goal

pub returns-in_default : goal.returns-in_default
returns-in_default c =
    let none : entry_of (table_of c.args.table.now) (family_of c.args.family.now) ≡ None = search rules in
    ok_so c.unraisable.result _ _ c.unraisable.ensures (λ o is.
    subst (ExportsFamily (export_arguments_of c.args.to.now) (table_of c.args.table.now) (family_of c.args.family.now)) (sym is) (raises_none none))

pub returns-then-not-sides_fit : goal.returns-then-not-sides_fit
returns-then-not-sides_fit c =
    let at : entry_of (table_of c.args.table.now) (family_of c.args.family.now) ≡ Some (rule_of c.in-Some.entry.now) = sym c.entry_of.ensures ∙ ap (option_map (λ e. rule_of e.now)) c.in-Some.is in
    ok_so c.unfit.result _ _ c.unfit.ensures (λ o is.
    subst (ExportsFamily (export_arguments_of c.args.to.now) (table_of c.args.table.now) (family_of c.args.family.now)) (sym is)
    (raises_unfit (rule_of c.in-Some.entry.now) at (λ fit. let bad = c.sides_fit.ensures.fit.1 fit in let no = c.if-not-sides_fit.true in cc)))

pub returns-then-not-is_raisable : goal.returns-then-not-is_raisable
returns-then-not-is_raisable c =
    let at : entry_of (table_of c.args.table.now) (family_of c.args.family.now) ≡ Some (rule_of c.in-Some.entry.now) = sym c.entry_of.ensures ∙ ap (option_map (λ e. rule_of e.now)) c.in-Some.is in
    ok_so c.unraisable-then-not-is_raisable.result _ _ c.unraisable-then-not-is_raisable.ensures (λ o is.
    subst (ExportsFamily (export_arguments_of c.args.to.now) (table_of c.args.table.now) (family_of c.args.family.now)) (sym is)
    (unraisable (rule_of c.in-Some.entry.now) at (c.sides_fit.ensures.fit.0 c.if-not-sides_fit.false) (λ can. let bad = c.is_raisable.ensures.1 can in let no = c.if-not-is_raisable.true in cc)))

pub returns : goal.returns
returns c =
    let at : entry_of (table_of c.args.table.now) (family_of c.args.family.now) ≡ Some (rule_of c.in-Some.entry.now) = sym c.entry_of.ensures ∙ ap (option_map (λ e. rule_of e.now)) c.in-Some.is in
    ok_so c.fit_family.result _ _ c.fit_family.ensures (λ o is.
    subst (ExportsFamily (export_arguments_of c.args.to.now) (table_of c.args.table.now) (family_of c.args.family.now)) (sym is)
    (raised (rule_of c.in-Some.entry.now) at (c.sides_fit.ensures.fit.0 c.if-not-sides_fit.false) (c.is_raisable.ensures.0 c.if-not-is_raisable.false)))
