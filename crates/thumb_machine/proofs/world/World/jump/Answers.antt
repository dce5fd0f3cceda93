use Rattle.thumb_machine.proofs.world.World.jump.Goals as goal

pub returns-in-External : goal.returns-in-External
returns-in-External c = rw c.in-External.is c.leave.ensures
