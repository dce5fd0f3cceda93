use Rattle.std.proofs.Common.{◌<◌, ◌^◌, rules, arith, refl}
use Rattle.rule_table.specs.Views.{table_of}
use Rattle.rule_table.specs.Text.{text_of}
use Rattle.audit_cli.specs.Tables.{opens_of}
use Rattle.audit_cli.proofs.TableTexts.{opens_within}
use Rattle.audit_cli.proofs.steps.table_report.Goals as goal

pub open_count-requires : goal.open_count-requires
open_count-requires c =
    let t = table_of c.args.table.now in
    let few = opens_within (text_of t) t (record { valid = c.requires.valid; whole = refl }) in
    let fits = c.requires.fits in
    let small : opens_of t < 2 ^ 63 = omega arith in
    search (rules, small)
