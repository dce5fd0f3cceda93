use Rattle.thumb_machine.proofs.world.World.leave.Goals as goal

pub returns : goal.returns
returns c = rw (← c.left_by-event.ensures) c.finish.ensures
