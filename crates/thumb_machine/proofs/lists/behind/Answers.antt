use Rattle.std.proofs.Common.{◌∙◌}
use Rattle.thumb_machine.proofs.Listed.{behind_next}
use Rattle.thumb_machine.proofs.lists.behind.Goals as goal

pub loop-word-preserved : goal.loop-word-preserved
loop-word-preserved c = rw c.next_word-at.ensures (behind_next c.loop-word.at c.args.list.now c.loop-word._word-index c.loop-word-test.true ∙ c.loop-word.invariant)
