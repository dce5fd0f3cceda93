use Rattle.std.proofs.Common.{sym}
use Rattle.thumb_model.specs.States.{ends, Fault}
use Rattle.thumb_model.specs.Accesses.{access_size, loads, gets, value_at}
use Rattle.thumb_machine.specs.Acting.{world_of}
use Rattle.thumb_machine.proofs.Acts.{acts_by, load_faults, load_read}
use Rattle.thumb_machine.proofs.world.World.load.Goals as goal

pub returns-then-not-is_aligned : goal.returns-then-not-is_aligned
returns-then-not-is_aligned c =
    acts_by (loads c.args.access c.args.target c.args.address) (ends (Fault c.args.address)) c.args.self.now c.args.answers.now c.finish.new.self c.args.answers.now c.finish.result
    (load_faults c.args.access c.args.target c.args.address c.access_size.result (world_of c.args.self.now c.args.answers.now) c.access_size.ensures.value (sym c.if-not-is_aligned.ensures))
    (c.finish.ensures c.args.answers.now)

pub returns : goal.returns
returns c =
    acts_by (loads c.args.access c.args.target c.args.address) (λ w. gets c.args.access c.args.target c.args.address (value_at w.memory c.args.address (access_size c.args.access)) w w.answers)
    c.args.self.now c.args.answers.now c.load_memory.new.self c.args.answers.now c.load_memory.result
    (load_read c.args.access c.args.target c.args.address c.access_size.result (world_of c.args.self.now c.args.answers.now) c.access_size.ensures.value (sym c.if-not-is_aligned.ensures) (sym c.if-is_device.ensures.value))
    (c.load_memory.ensures c.args.answers.now)
