use Rattle.std.proofs.Common.{◌∙◌, sym, ◌<◌, arith}
use Rattle.fingerprints.proofs.PrintLemmas.{one_lane_on, no_lane}
use Rattle.fingerprints.proofs.print.with_column.Goals as goal

pub loop-i-preserved : goal.loop-i-preserved
loop-i-preserved c =
    let h : c.loop-i.i < 8 = omega arith in
    one_lane_on c.args.mask.items.bits c.loop-i.h c.loop-i.i c.args.column.now.count c.args.column.now.lanes c.words_of-words.result c.flags_of-flags.result c.with_state-h.result _ c.loop-i-test.true
    (c.words_of-words.ensures c.loop-i.i h) c.flags_of-flags.ensures c.with_state-h.ensures c.loop-i.invariant

pub returns : goal.returns
returns c = sym (no_lane c.args.mask.items.bits c.loop-i.h c.loop-i.i c.args.column.now.count c.args.column.now.lanes c.loop-i-test.false) ∙ c.loop-i.invariant
