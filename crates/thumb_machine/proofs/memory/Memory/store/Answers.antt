use Rattle.thumb_machine.proofs.memory.Memory.store.Goals as goal

pub returns-clause-put : goal.returns-clause-put
returns-clause-put c = rw (← c.if-is_device.ensures.value) c.put.ensures.put
