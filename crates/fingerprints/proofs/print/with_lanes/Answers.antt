use Rattle.std.proofs.Common.{◌∙◌, sym, ◌<◌, arith}
use Rattle.fingerprints.proofs.PrintLemmas.{one_lane_on, no_lane}
use Rattle.fingerprints.proofs.print.with_lanes.Goals as goal

pub loop-i-preserved : goal.loop-i-preserved
loop-i-preserved c =
    let h : c.loop-i.i < 8 = omega (arith, c.requires) in
    let m = c.args.mask.items.bits in
    let i = c.loop-i.i in
    let n = c.args.count in
    let f = c.flags_of-flags.result in
    record {
      a = one_lane_on m c.loop-i.h.a i n c.args.a.now c.words_of-first.result f _ _ c.loop-i-test.true (c.words_of-first.ensures i h) c.flags_of-flags.ensures c.with_state.ensures c.loop-i.invariant.a;
      b = one_lane_on m c.loop-i.h.b i n c.args.b.now c.words_of-second.result f _ _ c.loop-i-test.true (c.words_of-second.ensures i h) c.flags_of-flags.ensures c.with_state-in-loop-i.ensures c.loop-i.invariant.b;
      c = one_lane_on m c.loop-i.h.c i n c.args.c.now c.words_of-third.result f _ _ c.loop-i-test.true (c.words_of-third.ensures i h) c.flags_of-flags.ensures c.with_state-in-loop-i-2.ensures c.loop-i.invariant.c;
      d = one_lane_on m c.loop-i.h.d i n c.args.d.now c.words_of-fourth.result f _ _ c.loop-i-test.true (c.words_of-fourth.ensures i h) c.flags_of-flags.ensures c.with_state-in-loop-i-3.ensures c.loop-i.invariant.d;
    }

pub returns-clause-a : goal.returns-clause-a
returns-clause-a c = sym (no_lane c.args.mask.items.bits c.loop-i.h.a c.loop-i.i c.args.count c.args.a.now c.loop-i-test.false) ∙ c.loop-i.invariant.a

pub returns-clause-b : goal.returns-clause-b
returns-clause-b c = sym (no_lane c.args.mask.items.bits c.loop-i.h.b c.loop-i.i c.args.count c.args.b.now c.loop-i-test.false) ∙ c.loop-i.invariant.b

pub returns-clause-c : goal.returns-clause-c
returns-clause-c c = sym (no_lane c.args.mask.items.bits c.loop-i.h.c c.loop-i.i c.args.count c.args.c.now c.loop-i-test.false) ∙ c.loop-i.invariant.c

pub returns-clause-d : goal.returns-clause-d
returns-clause-d c = sym (no_lane c.args.mask.items.bits c.loop-i.h.d c.loop-i.i c.args.count c.args.d.now c.loop-i-test.false) ∙ c.loop-i.invariant.d
