use Rattle.std.proofs.Common.{ap, sym, subst, arith, ◌∙◌, ◌≡◌, ◌<◌, true, length}
use Rattle.std.specs.List.{list_all}
use Rattle.thumb_instr.specs.Window.{is_in_window}
use Rattle.seq_enum.specs.Alphabet.{numbers_from}
use Rattle.rule_table.specs.Canonical.{appearing}
use Rattle.table_audit.specs.Orders.{IsAstray}
use Rattle.table_audit.proofs.Appearing.{in_order, out_of_order, too_many, above_zero, names_register}
use Rattle.table_audit.proofs.sides.names_in_order.Goals as goal
use Rattle.seq_enum.proofs.CostLines.{length-from}

pub returns-in-Some-clause-value : goal.returns-in-Some-clause-value
returns-in-Some-clause-value c =
    let order : appearing c.args.side.now ≡ numbers_from 0 c.in-Some.count = ap appearing (sym c.as_slice-instrs.ensures.value) ∙ c.in-Some.ensures.value in
    let some : 0 < length c.as_slice-instrs.result.now = above_zero _ (sym c.is_empty.ensures ∙ c.if-is_empty.false) in
    let windows : list_all is_in_window c.args.side.now ≡ true = ap (list_all is_in_window) (sym c.as_slice-instrs.ensures.value) ∙ sym c.are_windows.ensures ∙ c.if-not-are_windows.false in
    in_order c.args.side.now c.in-Some.count (omega (arith, some, ap length c.as_slice-instrs.ensures.value)) windows order c.if-count-le4.true

pub returns-in-Some-clause-some : goal.returns-in-Some-clause-some
returns-in-Some-clause-some c =
    let some : 0 < length c.as_slice-instrs.result.now = above_zero _ (sym c.is_empty.ensures ∙ c.if-is_empty.false) in
    let named = names_register c.as_slice-instrs.result.now some (sym c.are_windows.ensures ∙ c.if-not-are_windows.false) in
    omega (arith, named, ap length c.in-Some.ensures.value, length-from 0 c.in-Some.count)

pub returns-in_default-clause-value : goal.returns-in_default-clause-value
returns-in_default-clause-value c =
    let order : appearing c.args.side.now ≡ numbers_from 0 c.in-Some.count = ap appearing (sym c.as_slice-instrs.ensures.value) ∙ c.in-Some.ensures.value in
    too_many c.args.side.now c.in-Some.count order c.if-count-le4.false

pub returns-in_default-2-clause-value : goal.returns-in_default-2-clause-value
returns-in_default-2-clause-value c = out_of_order c.args.side.now (subst (λ is. IsAstray (appearing is)) c.as_slice-instrs.ensures.value c.in_default.ensures.value)
