use Rattle.std.proofs.Common.{◌≡◌, ◌∙◌, rules, map, length, Some, ap}
use Rattle.std.proofs.lemmas.List.{length-map}
use Rattle.rule_model.proofs.LinesKept.{still_layable}
use Rattle.label_layout.specs.Refusals.{fault_of, first_fault}
use Rattle.rule_table.specs.Views.{table_of}
use Rattle.table_audit.proofs.Sound.{accepted_sound}
use Rattle.window_rewrite.specs.TableRewriting.{replacement_of, setting}
use Rattle.audit_cli.specs.Demo.{demo_text}
use Rattle.audit_cli.specs.Rewrite.{instruction_count}
use Rattle.audit_cli.proofs.WellFormed.{still_reads}
use Rattle.audit_cli.proofs.MuteLines.{mute_flawless, mute_layable, rewritten_mute}
use Rattle.audit_cli.proofs.StepLemmas.{ok_so}
use Rattle.audit_cli.proofs.DemoLemmas.{is_rewriting_told, made_mute, none_some}
use Rattle.audit_cli.proofs.demo.rewriting_report.Goals as goal

pub unreachable-requires : goal.unreachable-requires
unreachable-requires g c =
    let told : first_fault 0 c.args.listing ≡ Some (c.in-Err-Line.field-0-0, fault_of c.in-Err-Line.field-0-1) = search rules in
    none_some (first_fault 0 c.args.listing) (c.in-Err-Line.field-0-0, fault_of c.in-Err-Line.field-0-1) (mute_layable 0 c.args.listing (made_mute c.args.listing c.requires.made)) told

pub image-requires : goal.image-requires
image-requires g c =
    let s = setting 0 (table_of c.args.table.now) in
    let made = map replacement_of c.in-Ok.field-0.replacements.items in
    let mute = made_mute c.args.listing c.requires.made in
    let sound = accepted_sound (table_of c.args.table.now) c.requires.valid c.requires.accepted in
    record {
      listed = still_reads 0 (table_of c.args.table.now) (demo_text c.requires.made.0) c.args.listing made c.in-Ok.field-0.listing sound.sound c.in-Ok.ensures.rewritten c.requires.made.2;
      layable = still_layable s c.args.listing made c.in-Ok.field-0.listing (mute_layable 0 c.args.listing mute) c.in-Ok.ensures.rewritten;
      flawless = mute_flawless 0 c.in-Ok.field-0.listing (rewritten_mute s c.args.listing made c.in-Ok.field-0.listing c.in-Ok.ensures.rewritten mute);
    }

pub returns-in_ok-bytes-in-Ok : goal.returns-in_ok-bytes-in-Ok
returns-in_ok-bytes-in-Ok g c =
    let made = c.in-Ok.field-0.replacements.items in
    let each : length (map replacement_of made) ≡ length made = length-map made replacement_of in
    let taken = c.len.ensures in
    let replaced : c.len.result ≡ length (map replacement_of made) = search rules in
    let before : c.instruction_count-before.result ≡ instruction_count c.args.listing = c.instruction_count-before.ensures ∙ ap instruction_count c.lines.ensures in
    let after : c.instruction_count.result ≡ instruction_count c.in-Ok.field-0.listing = c.instruction_count.ensures ∙ ap instruction_count c.lines-in-Ok.ensures in
    ok_so c.report_image.result _ _ c.report_image.ensures (λ o is. is_rewriting_told (table_of c.args.table.now) c.args.listing c.in-Ok.field-0.listing (map replacement_of made) c.in_ok-bytes-in-Ok.bytes.items
    c.len.result c.instruction_count-before.result c.instruction_count.result _ o.items
    c.in-Ok.ensures.rewritten c.in_ok-bytes-in-Ok.ensures replaced before after (search rules) is)
