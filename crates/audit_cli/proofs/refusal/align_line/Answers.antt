use Rattle.std.proofs.Common.{◌∙◌, ap, sym}
use Rattle.audit_cli.proofs.RefusalLemmas.{refused_align_is}
use Rattle.audit_cli.proofs.refusal.align_line.Goals as goal

pub returns : goal.returns
returns c = ap (λ v. v.items) c.into_bytes.ensures.value ∙ c.in_ok-text.ensures.ok ∙ sym (refused_align_is c.args.line c.args.address)
