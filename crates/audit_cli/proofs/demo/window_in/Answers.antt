use Rattle.std.proofs.Common.{◌≡◌, List, ℕ, rules, string_bytes, subst, sym}
use Rattle.std.specs.Prelude.{IfOk}
use Rattle.audit_cli.proofs.DemoTexts.{copied_text, copied_window, cut_text, cut_window, negated_text, negated_window}
use Rattle.audit_cli.proofs.demo.window_in.Goals as goal

pub returns-then-kind-eq0 : goal.returns-then-kind-eq0
returns-then-kind-eq0 c =
    let h : IfOk c.format.result (λ t. string_bytes t ≡ cut_text c.args.d) = search rules in
    subst (λ (w : List ℕ). IfOk c.format.result (λ t. string_bytes t ≡ w)) (sym (cut_window c.args.kind c.args.d c.if-kind-eq0.true)) h

pub returns-then-kind-eq1 : goal.returns-then-kind-eq1
returns-then-kind-eq1 c =
    let h : IfOk c.format-then-kind-eq1.result (λ t. string_bytes t ≡ negated_text c.args.d) = search rules in
    subst (λ (w : List ℕ). IfOk c.format-then-kind-eq1.result (λ t. string_bytes t ≡ w)) (sym (negated_window c.args.kind c.args.d c.if-kind-eq1.true)) h

pub returns : goal.returns
returns c =
    let h : IfOk c.format-2.result (λ t. string_bytes t ≡ copied_text c.args.d) = search rules in
    subst (λ (w : List ℕ). IfOk c.format-2.result (λ t. string_bytes t ≡ w)) (sym (copied_window c.args.kind c.args.d c.if-kind-eq0.false c.if-kind-eq1.false)) h
