use Rattle.std.proofs.Common.{◌≡◌, ◌+◌, ◌∙◌, ap, List, subst, arith, map}
use Rattle.std.specs.Prelude.{IfOk}
use Rattle.lrat_check.specs.declared.line.Line.{Line}
use Rattle.lrat_check.specs.Text.{content_of}
use Rattle.rule_table.specs.Views.{opened_of}
use Rattle.rule_table.specs.Text.{open_items}
use Rattle.table_learn.specs.Lengths.{lines_length, log_length}
use Rattle.table_learn.proofs.TextLengths.{open_lines}
use Rattle.table_learn.proofs.lengths.open_length.Goals as goal

pub returns : goal.returns
returns c =
    let e = open_lines (opened_of c.args.name.now) in
    let l : c.in_ok-log.log ≡ log_length (map content_of c.args.name.now.log.items) = c.in_ok-log.ensures ∙ ap (λ (ls : List Line). log_length (map content_of ls)) c.deref.ensures.value in
    let sum : c.in_ok-log.log + c.number_length.result ≡ lines_length (open_items (opened_of c.args.name.now)) = omega (arith, e, l, c.number_length.ensures.value) in
    subst (λ z. IfOk c.plus.result (λ n. n ≡ z)) sum c.plus.ensures
