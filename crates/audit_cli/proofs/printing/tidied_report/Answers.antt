use Rattle.std.proofs.Common.{◌∙◌, ap, sym}
use Rattle.audit_cli.proofs.PrintLemmas.{tidied_report_is}
use Rattle.audit_cli.proofs.printing.tidied_report.Goals as goal

pub returns : goal.returns
returns c = ap (λ v. v.items) c.into_bytes.ensures.value ∙ c.in_ok-text.ensures.ok ∙ sym (tidied_report_is c.args.changes c.args.before c.args.after)
