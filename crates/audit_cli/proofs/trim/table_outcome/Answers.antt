use Rattle.std.proofs.Common.{◌≡◌, ◌∙◌, rules, ap, ℕ}
use Rattle.rule_table.specs.Views.{table_of}
use Rattle.audit_cli.specs.Trim.{lines_in, trimmed_outcome}
use Rattle.audit_cli.proofs.StepLemmas.{ok_so}
use Rattle.audit_cli.proofs.trim.table_outcome.Goals as goal

pub returns : goal.returns
returns g c =
    let before : c.count_all-before.result ≡ lines_in (table_of c.args.table) = search rules in
    ok_so c.kept.result _ _ c.kept.ensures (λ o is. record {
      trimmed = table_of c.in_ok-trimmed.trimmed;
      are = c.in_ok-trimmed.ensures;
      is = is ∙ ap (λ (n : ℕ). trimmed_outcome c.args.out.now (table_of c.in_ok-trimmed.trimmed) n) before;
    })
