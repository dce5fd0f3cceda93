use Rattle.std.proofs.Common.{[], refl, if◌then◌else◌}
use Rattle.thumb_model.specs.States.{puts, On}
use Rattle.thumb_model.specs.Acts.{holds, jumps}
use Rattle.thumb_machine.specs.Acting.{target_of}
use Rattle.thumb_machine.proofs.Acts.{acts_by}
use Rattle.thumb_machine.proofs.world.World.jump_if.Goals as goal

pub returns : goal.returns
returns c = λ left.
    acts_by (λ w. if holds c.args.condition w.values then jumps (target_of c.args.target) w else puts [] On w) (jumps (target_of c.args.target)) c.args.self.now left c.jump.new.self left c.jump.result
    (rw (← c.if-not-holds.ensures) refl) (c.jump.ensures left)
