use Rattle.std.proofs.Common.{◌∙◌, ◌++◌, ◌∷◌, [], List, ℕ, ap, sym}
use Rattle.std.specs.Prelude.{codes}
use Rattle.std.specs.Fmt.{decimal}
use Rattle.audit_cli.proofs.TraceLineLemmas.{steps_line_is}
use Rattle.audit_cli.proofs.trace_lines.steps_line.Goals as goal

pub returns : goal.returns
returns c =
    ap (λ v. v.items) c.into_bytes.ensures.value ∙ c.in_ok-text.ensures.ok
    ∙ ap (λ (w : List ℕ). codes "steps " ++ (decimal c.args.taken ++ 32 ∷ (w ++ 10 ∷ []))) c.stage_word-word.ensures ∙ sym (steps_line_is c.args.taken c.args.stage)
