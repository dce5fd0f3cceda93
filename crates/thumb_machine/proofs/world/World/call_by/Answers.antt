use Rattle.thumb_machine.proofs.world.World.call_by.Goals as goal

pub returns-in-Strays : goal.returns-in-Strays
returns-in-Strays c = rw c.in-Strays.is (c.finish.ensures c.args.answers.now)
