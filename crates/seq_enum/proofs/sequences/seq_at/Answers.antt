use Rattle.std.proofs.Common.{◌≡◌, sym, ◌∙◌, arith}
use Rattle.seq_enum.proofs.Words.{seq_end}
use Rattle.seq_enum.proofs.sequences.seq_at.Goals as goal

pub returns : goal.returns
returns c =
    let is : c.loop-n.n ≡ 6 = omega arith in
    sym (seq_end c.args.k c.args.pool.now c.loop-n.left) ∙ rw is at c.loop-n.invariant
