use Rattle.std.proofs.Common.{◌≡◌, ◌∙◌, ◌-◌, ◌<◌, ◌||◌, refl, ap, arith}
use Rattle.thumb_instr.specs.Items.{has}
use Rattle.liveness.specs.Passing.{reads_from, writes_from}
use Rattle.liveness.proofs.Passings.{ways_read}
use Rattle.liveness.proofs.Windows.{nothing_read, nothing_written, reads_back, writes_back}
use Rattle.liveness.proofs.window.window_of.Goals as goal

pub loop-at-init : goal.loop-at-init
loop-at-init c = record {
  above = c.requires.ordered;
  below = omega arith;
  reads = λ x. c.none-reads.ensures x ∙ nothing_read c.args.ways.now c.args.end c.args.end x refl;
  writes = λ x. c.none-writes.ensures x ∙ nothing_written c.args.ways.now c.args.end c.args.end x refl;
}

pub loop-at-preserved : goal.loop-at-preserved
loop-at-preserved c =
    let all = c.args.ways.now in
    let at = c.loop-at.at in
    let some : 0 < at = omega (arith, c.loop-at-test.true) in
    let e = c.index-ways-at.result in
    let here = ways_read all (at - 1) e (omega (arith, c.loop-at-test.true, c.loop-at.invariant.below, c.requires.within)) c.index-ways-at.is in
    record {
      above = omega (arith, c.loop-at-test.true);
      below = omega (arith, c.loop-at.invariant.below);
      reads = λ x. c.union-reads.ensures x ∙ ap (λ b. has c.uses_in.result.bits x || b) (c.minus.ensures x)
          ∙ reads_back all at c.args.end some c.loop-at.invariant.below e here x (has c.loop-at.reads.bits x) (has c.uses_in.result.bits x) (has c.writes_in-written.result.bits x) (c.uses_in.ensures x) (c.writes_in-written.ensures x) (c.loop-at.invariant.reads x);
      writes = λ x. c.union-writes.ensures x ∙ writes_back all at c.args.end some c.loop-at.invariant.below e here x (has c.loop-at.writes.bits x) (has c.writes_in-written.result.bits x) (c.writes_in-written.ensures x) (c.loop-at.invariant.writes x);
    }

pub returns : goal.returns
returns c =
    let done : c.loop-at.at ≡ c.args.first = omega (arith, c.loop-at-test.false, c.loop-at.invariant.above) in
    record {
      first = refl;
      end = refl;
      reads = λ x. c.loop-at.invariant.reads x ∙ ap (λ p. reads_from c.args.ways.now p (c.args.end - p) x) done;
      writes = λ x. c.loop-at.invariant.writes x ∙ ap (λ p. writes_from c.args.ways.now p (c.args.end - p) x) done;
    }
