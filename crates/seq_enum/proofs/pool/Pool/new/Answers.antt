use Rattle.std.proofs.Common.{sym, ◌∙◌}
use Rattle.seq_enum.proofs.Bounds.{bounds}
use Rattle.seq_enum.proofs.pool.Pool.new.Goals as goal

pub kept-requires : goal.kept-requires
kept-requires c = (bounds c.args.numbers.now (sym c.is_pool.ensures ∙ c.if-is_pool.true)).few
