use Rattle.std.proofs.Common.{◌∙◌, ◌++◌, ◌∷◌, [], ap, sym}
use Rattle.std.specs.Prelude.{codes}
use Rattle.std.specs.Fmt.{decimal}
use Rattle.audit_cli.proofs.RefusalLemmas.{refused_line_is}
use Rattle.audit_cli.proofs.refusal.listing_line.Goals as goal

pub returns : goal.returns
returns c =
    ap (λ v. v.items) c.into_bytes.ensures.value ∙ c.in_ok-text.ensures.ok
    ∙ ap (λ k. codes "refused listing " ++ (decimal c.args.line ++ 32 ∷ (decimal k ++ 10 ∷ []))) c.kind_number-number.ensures ∙ sym (refused_line_is c.args.line c.args.kind)
