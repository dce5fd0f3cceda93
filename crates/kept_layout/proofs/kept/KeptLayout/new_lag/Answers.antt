use Rattle.std.proofs.Common.{arith}
use Rattle.kept_layout.proofs.Walls.{end_news}
use Rattle.kept_layout.proofs.kept.KeptLayout.new_lag.Goals as goal

pub overflow_add-result : goal.overflow_add-result
overflow_add-result c =
    let end = end_news c.args.self.now c.args.bytes c.args.moved.now.at.items c.requires.laid in
    let within = c.requires.is.within in
    omega arith
