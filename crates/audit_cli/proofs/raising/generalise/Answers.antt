use Rattle.std.proofs.Common.{◌≡◌, ◌↔◌, subst, map, Err}
use Rattle.std.specs.Prelude.{IfErr}
use Rattle.lrat_check.specs.Text.{content_of}
use Rattle.rule_table.specs.declared.table.Table.{Table as Held}
use Rattle.rule_table.specs.Table.{Family}
use Rattle.rule_table.specs.Views.{table_of}
use Rattle.audit_cli.specs.declared.raising.FamilyFault.TheVariants.{Symbol}
use Rattle.audit_cli.specs.Generalise.{wanted, IsUnraisable, FailsFor}
use Rattle.audit_cli.proofs.raising.generalise.Goals as goal

pub returns-clause-fault : goal.returns-clause-fault
returns-clause-fault g c =
    let family : _ ≡ wanted c.args.entry c.args.number c.args.low c.args.high = λ i. record { entry = c.args.entry; number = c.from-2.ensures i; low = c.from-3.ensures i; high = c.from-4.ensures i; proof = map content_of (c.new.ensures.items i) } in
    subst (λ (t : Held). IfErr c.raised.result (FailsFor (table_of t) (wanted c.args.entry c.args.number c.args.low c.args.high))) c.into_table-table.ensures.value
    (subst (λ (f : Family). IfErr c.raised.result (FailsFor (table_of c.into_table-table.result) f)) family c.raised.ensures.fault)

pub returns-clause-symbol : goal.returns-clause-symbol
returns-clause-symbol g c = λ small.
    let family : _ ≡ wanted c.args.entry c.args.number c.args.low c.args.high = λ i. record { entry = c.args.entry; number = c.from-2.ensures i; low = c.from-3.ensures i; high = c.from-4.ensures i; proof = map content_of (c.new.ensures.items i) } in
    subst (λ (t : Held). (c.raised.result ≡ Err Symbol) ↔ IsUnraisable (table_of t) (wanted c.args.entry c.args.number c.args.low c.args.high)) c.into_table-table.ensures.value
    (subst (λ (f : Family). (c.raised.result ≡ Err Symbol) ↔ IsUnraisable (table_of c.into_table-table.result) f) family c.raised.ensures.symbol)
