use Rattle.std.proofs.Common.{◌≡◌, ◌∙◌, rules, map, length, Some, ap}
use Rattle.std.proofs.lemmas.List.{length-map}
use Rattle.thumb_model.specs.Layout.{Layable}
use Rattle.rule_model.proofs.LinesKept.{still_layable}
use Rattle.label_layout.specs.Refusals.{fault_of, first_fault}
use Rattle.listing_parser.specs.Parsing.{text_of_lines}
use Rattle.rule_table.specs.Views.{table_of}
use Rattle.window_rewrite.specs.TableRewriting.{replacement_of, setting}
use Rattle.command_runs.specs.Outcomes.{outcome_view}
use Rattle.audit_cli.specs.Commands.{destination_of}
use Rattle.audit_cli.specs.Rewrite.{LinesRewrite, instruction_count, unlaid, rewritten}
use Rattle.audit_cli.proofs.StepLemmas.{is_unlaid, refused_ok, ok_so}
use Rattle.audit_cli.proofs.RewriteLemmas.{is_rewriting}
use Rattle.audit_cli.proofs.WellFormed.{still_reads}
use Rattle.audit_cli.proofs.rewrite.lines_outcome.Goals as goal

pub left-requires-clause-listed : goal.left-requires-clause-listed
left-requires-clause-listed g c =
    still_reads c.args.to.now.base.address (table_of c.args.table.now) (text_of_lines c.args.listing) c.args.listing (map replacement_of c.in-Ok.field-0.replacements.items) c.in-Ok.field-0.listing
    c.requires.sound.sound c.in-Ok.ensures.rewritten c.requires.listed

pub left-requires-clause-layable : goal.left-requires-clause-layable
left-requires-clause-layable g c =
    still_layable (setting c.args.to.now.base.address (table_of c.args.table.now)) c.args.listing (map replacement_of c.in-Ok.field-0.replacements.items) c.in-Ok.field-0.listing
    c.in-Ok.ensures.verdict c.in-Ok.ensures.rewritten

pub returns-in-Err-Line : goal.returns-in-Err-Line
returns-in-Err-Line g c =
    let h : first_fault c.args.to.now.base.address c.args.listing ≡ Some (c.in-Err-Line.number, fault_of c.in-Err-Line.kind) = search rules in
    refused_ok outcome_view (LinesRewrite (destination_of c.args.to.now) (table_of c.args.table.now) c.args.listing) c.unlaid.result c.refused.result c.refused.ensures
    (unlaid c.unlaid.result (is_unlaid c.args.to.now.base.address c.args.listing c.in-Err-Line.number (fault_of c.in-Err-Line.kind) c.unlaid.result h c.unlaid.ensures))

pub returns-in-Ok : goal.returns-in-Ok
returns-in-Ok g c =
    let made = c.in-Ok.field-0.replacements.items in
    let laid : Layable c.args.to.now.base.address c.args.listing = c.in-Ok.ensures.verdict in
    let each : length (map replacement_of made) ≡ length made = length-map made replacement_of in
    let taken = c.len.ensures in
    let replaced : c.len.result ≡ length (map replacement_of made) = search rules in
    let before : c.instruction_count-before.result ≡ instruction_count c.args.listing = c.instruction_count-before.ensures ∙ ap instruction_count c.lines.ensures in
    let after : c.instruction_count.result ≡ instruction_count c.in-Ok.field-0.listing = c.instruction_count.ensures ∙ ap instruction_count c.lines-in-Ok.ensures in
    ok_so c.left.result _ _ c.left.ensures (λ o h. rewritten laid (outcome_view o)
    (is_rewriting (destination_of c.args.to.now) (table_of c.args.table.now) c.args.listing c.in-Ok.field-0.listing (map replacement_of made)
    (record { replaced = c.len.result; before = c.instruction_count-before.result; after = c.instruction_count.result }) (outcome_view o)
    c.requires.sound c.requires.listed laid c.in-Ok.ensures.rewritten (λ i. record { replaced = replaced i; before = before i; after = after i }) h))
