use Rattle.table_audit.proofs.Numbering.{count_is}
use Rattle.table_audit.proofs.widths.count_shorter.Goals as goal

pub returns : goal.returns
returns c = count_is c.args.k c.args.pool.now c.args.count _ _ _ c.size.ensures.value c.from.ensures c.count_below.ensures.value
