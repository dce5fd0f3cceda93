use Rattle.std.proofs.Common.{◌≡◌, ◌∙◌, [], ◌∷◌, rules, arith, sym, ap, subst, length, List, ℕ}
use Rattle.rule_table.specs.Views.{table_of}
use Rattle.table_learn.specs.Learnt.{text_length}
use Rattle.command_runs.specs.Plans.{Refuses, Does}
use Rattle.audit_cli.specs.declared.refusal.Refusal.TheVariants as refusal
use Rattle.audit_cli.specs.Printed.{refusal_line}
use Rattle.audit_cli.specs.Upgrade.{IsKept, kept, full}
use Rattle.audit_cli.proofs.StepLemmas.{ok_so}
use Rattle.audit_cli.proofs.upgrade.kept.Goals as goal

pub returns-then-bytes : goal.returns-then-bytes
returns-then-bytes c =
    let t = table_of c.args.table.now in
    let taken : c.len-bytes.result ≡ length c.in_ok-text.text.items = search rules in
    let size : c.len-bytes.result ≡ text_length t = taken ∙ ap (λ (bytes : List ℕ). length bytes) c.in_ok-text.ensures in
    ok_so c.refused.result _ _ c.refused.ensures (λ o is. subst (IsKept c.args.out.now t c.args.lines.items) (sym (is ∙ ap (λ (n : ℕ). Refuses (refusal_line (refusal.Full n))) size)) (full (omega (arith, size, c.if-bytes.true))))

pub returns : goal.returns
returns c =
    let t = table_of c.args.table.now in
    let taken : c.len-bytes.result ≡ length c.in_ok-text.text.items = search rules in
    let size : c.len-bytes.result ≡ text_length t = taken ∙ ap (λ (bytes : List ℕ). length bytes) c.in_ok-text.ensures in
    ok_so c.keeps_text.result _ _ c.keeps_text.ensures (λ o is. subst (IsKept c.args.out.now t c.args.lines.items) (sym (is ∙ ap (λ (bytes : List ℕ). Does ((c.args.out.now, bytes) ∷ []) c.args.lines.items) c.in_ok-text.ensures)) (kept (omega (arith, size, c.if-bytes.false))))
