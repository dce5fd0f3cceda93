use Rattle.std.proofs.Common.{arith, refl, ◌∙◌}
use Rattle.thumb_machine.proofs.Listed.{loads_next}
use Rattle.thumb_machine.proofs.lists.tell_loads.Goals as goal

pub loop-word-preserved : goal.loop-word-preserved
loop-word-preserved c = record {
  completes =
      rw (c.next_word-at.ensures, c.push_reserved.ensures.items)
      (loads_next c.loop-word.events.items _ c.loop-word.at c.args.list.now c.loop-word._word-index refl c.loop-word-test.true ∙ c.loop-word.invariant.completes);
  len = omega arith;
  cap = omega arith;
}
