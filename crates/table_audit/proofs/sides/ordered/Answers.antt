use Rattle.std.proofs.Common.{arith, sym, ◌∙◌, ◌+◌, ◌<◌, ap, drop}
use Rattle.seq_enum.specs.Alphabet.{numbers_from}
use Rattle.rule_table.specs.Canonical.{firsts, numbers_of}
use Rattle.rule_table.proofs.Orders.{low-end}
use Rattle.table_audit.proofs.Appearing.{order_fault, order_seen, order_next}
use Rattle.table_audit.proofs.sides.ordered.Goals as goal
use Rattle.table_audit.proofs.sides.ordered.Goals.{then-register-seen-2, else-register-seen-2}

pub returns-then-register-seen-clause-value : goal.returns-then-register-seen-clause-value
returns-then-register-seen-clause-value c = order_fault _ _ _ c.register-item.result _ c.loop-register-test.true c.register-item.is c.if-register-seen.true c.loop-register.invariant.same

pub loop-register-preserved : goal.loop-register-preserved
loop-register-preserved c =
    let later = numbers_of (drop (c.loop-register.register-index + 1) c.args.registers.now) in
    elim c.if-register-seen-2.branch [
      | then-register-seen-2 w ↦ (
          let here = order_next _ _ _ c.register-item.result _ c.loop-register-test.true c.register-item.is w.if-register-seen-2.true c.loop-register.invariant.same in
          record { same = ap (λ n. firsts (numbers_from 0 n) later) w.seen-is ∙ here; few = omega arith }
          )
      | else-register-seen-2 w ↦ (
          let near : c.register-item.result.number < c.loop-register.seen = omega (arith, w.if-register-seen-2.false, c.if-register-seen.false) in
          let here = order_seen _ _ _ c.register-item.result _ c.loop-register-test.true c.register-item.is near c.loop-register.invariant.same in
          record { same = ap (λ n. firsts (numbers_from 0 n) later) w.seen-is ∙ here; few = omega arith }
          )
    ]

pub returns-clause-value : goal.returns-clause-value
returns-clause-value c = sym c.loop-register.invariant.same ∙ low-end _ _ _ c.loop-register-test.false
