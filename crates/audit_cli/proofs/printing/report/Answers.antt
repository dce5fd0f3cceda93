use Rattle.std.proofs.Common.{◌∙◌, ap, sym}
use Rattle.audit_cli.proofs.PrintLemmas.{report_is}
use Rattle.audit_cli.proofs.printing.report.Goals as goal

pub returns : goal.returns
returns c = ap (λ v. v.items) c.into_bytes.ensures.value ∙ c.in_ok-text.ensures.ok ∙ sym (report_is c.args.replaced c.args.before c.args.after)
