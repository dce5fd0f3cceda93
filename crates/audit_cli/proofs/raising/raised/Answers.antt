use Rattle.std.proofs.Common.{◌≡◌, ◌∙◌, ◌<◌, ◌^◌, rules, ap, sym, map, Some, option_map}
use Rattle.lrat_check.specs.Text.{content_of}
use Rattle.rule_table.specs.Views.{family_of, rule_of, table_of}
use Rattle.table_audit.specs.Families.{entry_of}
use Rattle.table_audit.proofs.Raising.{raised_fits}
use Rattle.audit_cli.proofs.GeneraliseLemmas.{generalised}
use Rattle.audit_cli.proofs.raising.raised.Goals as goal

pub prove-requires-clause-entry : goal.prove-requires-clause-entry
prove-requires-clause-entry g c =
    let t = table_of c.args.table in
    let f = family_of c.args.family in
    let at : entry_of t f ≡ Some (rule_of c.in-Some.entry.now) = sym c.entry_of.ensures ∙ ap (option_map (λ e. rule_of e.now)) c.in-Some.is in
    raised_fits t f (rule_of c.in-Some.entry.now) c.requires.accepted.1.1.0 at

pub returns-clause-generalised : goal.returns-clause-generalised
returns-clause-generalised g c =
    let t = table_of c.args.table in
    let f = family_of c.args.family in
    let e = rule_of c.in-Some.entry.now in
    let at : entry_of t f ≡ Some e = sym c.entry_of.ensures ∙ ap (option_map (λ e. rule_of e.now)) c.in-Some.is in
    let entry : c.args.family.entry < 2 ^ 32 = search rules in
    let number : c.args.family.number < 2 ^ 32 = search rules in
    let low : c.args.family.low < 2 ^ 32 = search rules in
    let high : c.args.family.high < 2 ^ 32 = search rules in
    generalised t (table_of c.in-Ok.table) f e (map content_of c.in_ok-proof.proof.items) c.requires.valid c.requires.accepted (record { is_entry = at; raisable = c.is_raisable.ensures.0 c.if-not-is_raisable.false }) c.in_ok-proof.ensures.proved
    (record { entry = entry; number = number; low = low; high = high; proof = c.in_ok-proof.ensures.lines }) c.in-Ok.ensures
