use Rattle.std.proofs.Common.{arith}
use Rattle.seq_enum.proofs.Starts.{starts_next}
use Rattle.seq_enum.proofs.numbering.starts_of.Goals as goal

pub loop-row-preserved : goal.loop-row-preserved
loop-row-preserved c =
    let next =
    starts_next c.args.k c.args.pool.now c.args.rows.now _ c.loop-row.row-index c.loop-row.starts.items _ c.loop-row.total c.size_of-total.result c.loop-row-test.true
    c.loop-row.invariant.so_far c.loop-row.invariant.total c.push.ensures.items c.size_of-total.ensures.value in
    record { so_far = next.0; total = next.1; small = omega (arith, c.loop-row.invariant.small, c.size_of-total.ensures.small) }
