use Rattle.std.proofs.Common.{◌≡◌, ◌<◌, ◌^◌, rules, arith, ap, length, List, ℕ}
use Rattle.rule_table.specs.Text.{text_of}
use Rattle.rule_table.specs.Views.{table_of}
use Rattle.audit_cli.proofs.TableTexts.{proofs_within}
use Rattle.audit_cli.proofs.trim.kept.Goals as goal

pub count_all-after-requires : goal.count_all-after-requires
count_all-after-requires c =
    let t = table_of c.args.table.now in
    let within = proofs_within t in
    let same : length c.in_ok-text.text.items ≡ length (text_of t) = ap (λ (bytes : List ℕ). length bytes) c.in_ok-text.ensures in
    let short : length c.in_ok-text.text.items < 2 ^ 63 = search rules in
    omega (arith, within, same, short)
