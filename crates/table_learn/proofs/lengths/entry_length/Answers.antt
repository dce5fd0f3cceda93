use Rattle.std.proofs.Common.{◌≡◌, ◌+◌, ◌∙◌, ap, List, subst, arith, map}
use Rattle.std.specs.Prelude.{IfOk, sum_by}
use Rattle.thumb_instr.specs.declared.instr.Instr.{Instr}
use Rattle.lrat_check.specs.declared.line.Line.{Line}
use Rattle.lrat_check.specs.Text.{content_of}
use Rattle.rule_table.specs.declared.table.Open.{Open}
use Rattle.rule_table.specs.Views.{opened_of, rule_of}
use Rattle.rule_table.specs.Text.{rule_items}
use Rattle.table_learn.specs.Lengths.{lines_length, log_length, opens_length, instr_length}
use Rattle.table_learn.proofs.TextLengths.{entry_lines}
use Rattle.table_learn.proofs.lengths.entry_length.Goals as goal

pub returns : goal.returns
returns c =
    let e = entry_lines (rule_of c.args.entry.now) in
    let l : c.in_ok-left.left ≡ sum_by (instr_length 5) c.args.entry.now.left = c.in_ok-left.ensures ∙ ap (λ (is : List Instr). sum_by (instr_length 5) is) c.as_slice.ensures.value in
    let r : c.in_ok-right.right ≡ sum_by (instr_length 6) c.args.entry.now.right = c.in_ok-right.ensures ∙ ap (λ (is : List Instr). sum_by (instr_length 6) is) c.as_slice-2.ensures.value in
    let p : c.in_ok-proof.proof ≡ log_length (map content_of c.args.entry.now.proof.items) = c.in_ok-proof.ensures ∙ ap (λ (ls : List Line). log_length (map content_of ls)) c.deref.ensures.value in
    let o : c.in_ok-opens.opens ≡ opens_length (map opened_of c.args.entry.now.opens.items) = c.in_ok-opens.ensures ∙ ap (λ (os : List Open). opens_length (map opened_of os)) c.deref-2.ensures.value in
    let a : c.in_ok-sides.sides ≡ c.in_ok-left.left + c.in_ok-right.right = c.in_ok-sides.ensures in
    let b : c.in_ok-front.front ≡ c.in_ok-sides.sides + (12 + c.mask_length.result) = c.in_ok-front.ensures in
    let d : c.in_ok-plus.field-0 ≡ c.in_ok-front.front + c.in_ok-proof.proof = c.in_ok-plus.ensures in
    let sum : c.in_ok-plus.field-0 + c.in_ok-opens.opens ≡ lines_length (rule_items (rule_of c.args.entry.now)) = omega (arith, e, l, r, p, o, a, b, d, c.mask_length.ensures.value) in
    subst (λ z. IfOk c.plus-4.result (λ n. n ≡ z)) sum c.plus-4.ensures
