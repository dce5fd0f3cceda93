use Rattle.std.proofs.Common.{arith, sym, ap, ◌∙◌, ◌≡◌, get_or}
use Rattle.thumb_instr.specs.Window.{named}
use Rattle.rule_table.specs.Canonical.{numbers_of}
use Rattle.rule_table.proofs.Orders.{instr-end}
use Rattle.table_audit.proofs.Appearing.{names_start, names_fault, names_step}
use Rattle.table_audit.proofs.sides.ordered_names.Goals as goal

pub loop-instr-init : goal.loop-instr-init
loop-instr-init c = record { same = names_start c.args.instrs.now; few = omega arith }

pub returns-in-None : goal.returns-in-None
returns-in-None c =
    let names : numbers_of c.deref.result.now ≡ named (get_or c.args.instrs.now c.loop-instr.instr-index c.instr-item.result) =
    ap numbers_of c.deref.ensures.0 ∙ c.registers_of.ensures ∙ ap named c.instr-item.is in
    record { value = names_fault _ _ _ c.instr-item.result _ _ c.loop-instr-test.true names c.in-None.ensures.value c.loop-instr.invariant.same }

pub loop-instr-preserved : goal.loop-instr-preserved
loop-instr-preserved c =
    let names : numbers_of c.deref.result.now ≡ named (get_or c.args.instrs.now c.loop-instr.instr-index c.instr-item.result) =
    ap numbers_of c.deref.ensures.0 ∙ c.registers_of.ensures ∙ ap named c.instr-item.is in
    record {
      same = names_step _ c.in-Some.more _ _ c.instr-item.result _ _ c.loop-instr-test.true names c.in-Some.ensures.value c.loop-instr.invariant.same;
      few = omega (arith, c.in-Some.ensures.few, c.deref.ensures.1, c.loop-instr.invariant.few);
    }

pub returns : goal.returns
returns c = record { value = sym c.loop-instr.invariant.same ∙ instr-end _ _ _ c.loop-instr-test.false }
