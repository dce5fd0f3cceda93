use Rattle.thumb_machine.proofs.memory.Memory.+put.Given as goal

abbrev pub decreases-put : goal.decreases-put
decreases-put l = l.size
