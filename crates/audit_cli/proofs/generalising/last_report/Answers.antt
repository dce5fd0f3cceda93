use Rattle.std.proofs.Common.{◌≡◌, ◌∙◌, ◌+◌, ◌∷◌, [], List, rules, ap, sym, map, length, length-append}
use Rattle.std.proofs.lemmas.List.{length-map}
use Rattle.rule_table.specs.Table.{Family}
use Rattle.rule_table.specs.Views.{family_of}
use Rattle.audit_cli.specs.Printed.{families_line}
use Rattle.audit_cli.proofs.StepLemmas.{ok_so}
use Rattle.audit_cli.proofs.generalising.last_report.Goals as goal

pub returns : goal.returns
returns c = λ front f is.
    let lines : c.last_lines.result ≡ length f.proof = c.last_lines.ensures front f (ap (map family_of) c.deref.ensures.value ∙ is) in
    let size : c.len.result ≡ length c.args.table.now.families.items = search rules in
    let count : c.len.result ≡ length front + 1 = size ∙ sym (length-map c.args.table.now.families.items family_of) ∙ ap (λ (fs : List Family). length fs) is ∙ length-append front (f ∷ []) in
    ok_so c.families_report.result _ _ c.families_report.ensures (λ v h. h ∙ (λ i. families_line (count i) (lines i)))
