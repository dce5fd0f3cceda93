use Rattle.std.proofs.Common.{sym}
use Rattle.table_learn.proofs.TextLengths.{no_line, opens_next}
use Rattle.table_learn.proofs.lengths.opens_length.Goals as goal

pub loop-name-init : goal.loop-name-init
loop-name-init c = sym no_line

pub loop-name-preserved : goal.loop-name-preserved
loop-name-preserved c = opens_next c.args.opens.now c.loop-name.name-index c.name-item.result c.loop-name.total _ _ c.loop-name-test.true c.name-item.is c.loop-name.invariant c.in_ok-open_length.ensures c.in_ok-total.ensures
