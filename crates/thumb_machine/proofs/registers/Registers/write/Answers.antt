use Rattle.thumb_machine.proofs.registers.Registers.write.Goals as goal

pub returns : goal.returns
returns c = rw (c.written.ensures 0) at c.set.ensures
