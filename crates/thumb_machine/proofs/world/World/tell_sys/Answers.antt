use Rattle.thumb_machine.proofs.world.World.tell_sys.Goals as goal

pub returns : goal.returns
returns c = rw (← c.sys.ensures) c.tell_on.ensures
