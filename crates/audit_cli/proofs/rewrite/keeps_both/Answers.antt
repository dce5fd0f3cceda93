use Rattle.std.proofs.Common.{◌≡◌, ◌∙◌, ◌++◌, ℕ, List, [], ◌∷◌, ap, arith, length}
use Rattle.listing_parser.specs.Parsing.{text_of_lines}
use Rattle.command_runs.specs.Plans.{Does}
use Rattle.audit_cli.specs.Printed.{report_of, image_line}
use Rattle.audit_cli.proofs.StepLemmas.{ok_so}
use Rattle.audit_cli.proofs.rewrite.keeps_both.Goals as goal

pub returns : goal.returns
returns c =
    let to = c.args.to.now in
    let counts = c.args.counts in
    let many : c.args.image.len ≡ length c.args.image.items = omega arith in
    let lines = c.in_ok-lines.ensures ∙ ap (λ (n : ℕ). report_of counts.replaced counts.before counts.after ++ image_line n) (c.len.ensures ∙ many) in
    ok_so c.keeps_two.result _ _ c.keeps_two.ensures (λ o is. is
    ∙ ap (λ (t : List ℕ). Does ((to.out.now, t) ∷ (to.image.now, c.args.image.items) ∷ []) c.in_ok-lines.lines.items) c.in_ok-text.ensures
    ∙ ap (λ (ls : List ℕ). Does ((to.out.now, text_of_lines c.args.listing.now) ∷ (to.image.now, c.args.image.items) ∷ []) ls) lines)
