-- What `demo` prints is determined by the table that is learnt.
use Rattle.std.proofs.Common.{◌≡◌, ◌∙◌, ℕ, List, ◌++◌, length, sym, ap, subst}
use Rattle.thumb_model.specs.Listing.{ListingLine}
use Rattle.rule_model.specs.Rewriting.{Replacement}
use Rattle.rule_model.proofs.Unique.{is_determined}
use Rattle.listing_parser.proofs.MadeLemmas.{one_listing}
use Rattle.rule_table.specs.Table.{Table}
use Rattle.table_audit.specs.Soundness.{IsSound}
use Rattle.table_audit.proofs.Sound.{accepted_sound}
use Rattle.window_rewrite.specs.TableRewriting.{setting}
use Rattle.thumb_assembler.specs.Runs.{IsAssembled}
use Rattle.audit_cli.specs.Printed.{demo_line, learnt_line, report_of, image_line}
use Rattle.audit_cli.specs.Tables.{opens_of}
use Rattle.audit_cli.specs.Rewrite.{instruction_count}
use Rattle.audit_cli.specs.Demo.{demo_text, IsRewritingTold}
use Rattle.command_laws.specs.Once.{DemosOfOneTableAreOne}
use Rattle.command_laws.proofs.ImageLemmas.{image_once}

told_once : (t : Table) (given : List ListingLine) (told other : List ℕ) → IsSound t → IsRewritingTold t given told → IsRewritingTold t given other → told ≡ other
told_once t given told other sound h k =
    let d = is_determined (setting 0 t) given sound.sound h.replacements k.replacements h.lines k.lines h.rewritten k.rewritten in
    let replacements : h.replacements ≡ k.replacements = d.0 in
    let lines : h.lines ≡ k.lines = d.1 in
    let image : IsAssembled 0 h.lines k.bytes = subst (λ (ls : List ListingLine). IsAssembled 0 ls k.bytes) (sym lines) k.image in
    let bytes : h.bytes ≡ k.bytes = image_once 0 h.lines h.bytes k.bytes h.image.image image.image in
    h.are_told
    ∙ ap (λ (rs : List Replacement). report_of (length rs) (instruction_count given) (instruction_count h.lines) ++ image_line (length h.bytes)) replacements
    ∙ ap (λ (ls : List ListingLine). report_of (length k.replacements) (instruction_count given) (instruction_count ls) ++ image_line (length h.bytes)) lines
    ∙ ap (λ (bs : List ℕ). report_of (length k.replacements) (instruction_count given) (instruction_count k.lines) ++ image_line (length bs)) bytes
    ∙ sym k.are_told

pub demos_once : DemosOfOneTableAreOne
demos_once n told other h k same =
    let lines : k.lines ≡ h.lines = one_listing (demo_text n) k.lines h.lines k.listing h.listing in
    let by_table : IsRewritingTold h.table k.lines k.rewriting = subst (λ (x : Table). IsRewritingTold x k.lines k.rewriting) (sym same) k.rewritten in
    let by_lines : IsRewritingTold h.table h.lines k.rewriting = subst (λ (ls : List ListingLine). IsRewritingTold h.table ls k.rewriting) lines by_table in
    let sound = accepted_sound h.table h.learnt.valid h.learnt.learnt.accepted in
    let rewriting : h.rewriting ≡ k.rewriting = told_once h.table h.lines h.rewriting k.rewriting sound h.rewritten by_lines in
    h.are_told
    ∙ ap (λ (x : Table). demo_line n ++ (learnt_line (length x.rules) (opens_of x) (length x.states) ++ h.rewriting)) same
    ∙ ap (λ (r : List ℕ). demo_line n ++ (learnt_line (length k.table.rules) (opens_of k.table) (length k.table.states) ++ r)) rewriting
    ∙ sym k.are_told
