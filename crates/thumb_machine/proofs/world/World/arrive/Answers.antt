use Rattle.std.proofs.Common.{[], map, refl}
use Rattle.thumb_model.specs.States.{Left, Astray, registers_left}
use Rattle.thumb_machine.specs.Registers.{values_of}
use Rattle.thumb_machine.proofs.Popped.{events_push}
use Rattle.thumb_machine.proofs.world.World.arrive.Goals as goal

pub returns-in-Leaves-clause-ends : goal.returns-in-Leaves-clause-ends
returns-in-Leaves-clause-ends c = rw c.in-Leaves.is ([], Left c.args.word (map (values_of c.args.self.now.registers) registers_left), refl, refl)

pub returns-in-Leaves-clause-events : goal.returns-in-Leaves-clause-events
returns-in-Leaves-clause-events c =
    rw (c.in-Leaves.is, c.push_reserved.ensures.items) (events_push c.args.self.now.events.items c.left_by-event.result _ c.left_by-event.ensures)

pub returns-in-Strays-clause-ends : goal.returns-in-Strays-clause-ends
returns-in-Strays-clause-ends c = rw c.in-Strays.is ([], Astray c.args.word, refl, refl)
