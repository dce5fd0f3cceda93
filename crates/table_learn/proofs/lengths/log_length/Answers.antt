use Rattle.std.proofs.Common.{sym}
use Rattle.table_learn.proofs.TextLengths.{no_line, log_next}
use Rattle.table_learn.proofs.lengths.log_length.Goals as goal

pub loop-line-init : goal.loop-line-init
loop-line-init c = sym no_line

pub loop-line-preserved : goal.loop-line-preserved
loop-line-preserved c = log_next c.args.lines.now c.loop-line.line-index c.line-item.result c.loop-line.total _ _ c.loop-line-test.true c.line-item.is c.loop-line.invariant c.in_ok-line_length.ensures c.in_ok-total.ensures
