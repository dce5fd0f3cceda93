use Rattle.rule_table.proofs.NameLists.{names_begin, names_next}
use Rattle.rule_table.proofs.windows.names_of.Goals as goal

pub loop-turn-init : goal.loop-turn-init
loop-turn-init c = names_begin c.of-names.result.number c.args.order.now c.of-names.ensures

pub loop-turn-preserved : goal.loop-turn-preserved
loop-turn-preserved c = names_next c.args.order.now c.loop-turn.names c.loop-turn.turn _ c.of.result c.loop-turn-test.true c.loop-turn.invariant c.of.ensures
