use Rattle.table_audit.proofs.Fitting.{has_place}
use Rattle.table_audit.proofs.sides.is_over.Goals as goal

pub returns : goal.returns
returns c = rw c.is_some.ensures (has_place c.args.k c.args.pool.now c.args.seq.now c.number_of.result c.requires.short c.number_of.ensures)
