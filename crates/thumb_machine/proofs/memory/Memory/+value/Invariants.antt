use Rattle.thumb_machine.proofs.memory.Memory.+value.Given as goal

abbrev pub decreases-value : goal.decreases-value
decreases-value l = l.size
