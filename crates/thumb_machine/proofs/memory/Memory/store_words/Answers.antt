use Rattle.std.proofs.Common.{arith, ◌∙◌}
use Rattle.std.proofs.lemmas.Grind.{common_steps}
use Rattle.thumb_machine.specs.Memory.{memory_of}
use Rattle.thumb_machine.proofs.Listed.{stored_next}
use Rattle.thumb_machine.proofs.memory.Memory.store_words.Goals as goal

pub loop-word-preserved : goal.loop-word-preserved
loop-word-preserved c = record {
  completes =
      rw (c.store.ensures.put, c.next_word-at.ensures)
      (stored_next (memory_of c.loop-word.self) c.loop-word.at c.args.words.now c.loop-word.word-index c.loop-word-test.true ∙ c.loop-word.invariant.completes);
  room = grind (arith, common_steps);
}
