use Rattle.std.proofs.Common.{◌≡◌, ◌∙◌, [], ◌∷◌, rules, ℕ, Some, ap}
use Rattle.label_layout.specs.Refusals.{fault_of, first_fault}
use Rattle.command_runs.specs.Outcomes.{outcome_view}
use Rattle.command_runs.specs.Plans.{Does}
use Rattle.listing_parser.specs.Parsing.{text_of_lines}
use Rattle.audit_cli.specs.Printed.{tidied_report}
use Rattle.audit_cli.specs.Rewrite.{instruction_count}
use Rattle.audit_cli.specs.Tidy.{LinesTidy, unlaid}
use Rattle.audit_cli.proofs.StepLemmas.{is_unlaid, refused_ok, ok_so}
use Rattle.audit_cli.proofs.TidyLemmas.{is_tidied}
use Rattle.audit_cli.proofs.tidy.lines_outcome.Goals as goal

pub returns-in-Err-Line : goal.returns-in-Err-Line
returns-in-Err-Line g c =
    let h : first_fault c.args.to.now.base.address c.args.listing ≡ Some (c.in-Err-Line.number, fault_of c.in-Err-Line.kind) = search rules in
    refused_ok outcome_view (LinesTidy c.args.to.now.base.address c.args.to.now.out.now c.args.listing) c.unlaid.result c.refused.result c.refused.ensures
    (unlaid c.unlaid.result (is_unlaid c.args.to.now.base.address c.args.listing c.in-Err-Line.number (fault_of c.in-Err-Line.kind) c.unlaid.result h c.unlaid.ensures))

pub returns-in-Ok : goal.returns-in-Ok
returns-in-Ok g c =
    let tidied = c.in-Ok.tidied in
    let before : c.instruction_count-before.result ≡ instruction_count c.args.listing = c.instruction_count-before.ensures ∙ ap instruction_count c.lines.ensures in
    ok_so c.kept.result _ _ c.kept.ensures (λ o is. is_tidied c.args.to.now.base.address c.args.to.now.out.now c.args.listing tidied.listing tidied.changes (outcome_view o)
    c.in-Ok.ensures.verdict c.in-Ok.ensures.tidied (c.in-Ok.ensures.same c.requires)
    (is ∙ ap (λ (n : ℕ). Does ((c.args.to.now.out.now, text_of_lines tidied.listing) ∷ []) (tidied_report tidied.changes n (instruction_count tidied.listing))) before))
