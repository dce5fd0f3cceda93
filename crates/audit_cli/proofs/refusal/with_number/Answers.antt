use Rattle.std.proofs.Common.{◌∙◌, ◌∷◌, [], ap, sym, append_assoc}
use Rattle.std.specs.Fmt.{decimal}
use Rattle.audit_cli.proofs.refusal.with_number.Goals as goal

pub returns : goal.returns
returns c = ap (λ v. v.items) c.into_bytes.ensures.value ∙ c.in_ok-text.ensures.ok ∙ sym (append_assoc c.args.words.now (32 ∷ decimal c.args.number) (10 ∷ []))
