use Rattle.std.proofs.Common.{arith, rules}
use Rattle.thumb_machine.proofs.Listed.{devices_next}
use Rattle.thumb_machine.proofs.lists.device_words.Goals as goal

pub loop-word-preserved : goal.loop-word-preserved
loop-word-preserved c = record {
  completes = rw (c.next_word-at.ensures, c.device_count-count.ensures) (omega (arith, devices_next c.loop-word.at c.args.list.now c.loop-word._word-index c.loop-word-test.true, c.loop-word.invariant.completes));
  few = search rules;
}
