use Rattle.thumb_machine.proofs.world.World.branch.Goals as goal

pub returns-in-Leaves : goal.returns-in-Leaves
returns-in-Leaves c = rw c.in-Leaves.is c.leave.ensures

pub returns-in-Strays : goal.returns-in-Strays
returns-in-Strays c = rw c.in-Strays.is c.finish.ensures
