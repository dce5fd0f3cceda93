use Rattle.std.proofs.Common.{◌∙◌, ◌++◌, ◌∷◌, [], ℤ, ap, sym}
use Rattle.std.specs.Prelude.{codes}
use Rattle.std.specs.Fmt.{decimal, signed_decimal}
use Rattle.std.proofs.lemmas.Int.{to_z-of_z}
use mir.Syntax.{w64}
use Rattle.audit_cli.proofs.RefusalLemmas.{refused_range_is}
use Rattle.audit_cli.proofs.refusal.range_line.Goals as goal

pub returns : goal.returns
returns c =
    ap (λ v. v.items) c.into_bytes.ensures.value ∙ c.in_ok-text.ensures.ok
    ∙ ap (λ (z : ℤ). codes "refused listing " ++ (decimal c.args.line ++ (codes " 4 " ++ (signed_decimal z ++ 10 ∷ [])))) (to_z-of_z w64 c.args.distance c.ranges.distance)
    ∙ sym (refused_range_is c.args.line c.args.distance)
