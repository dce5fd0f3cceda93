use Rattle.std.proofs.Common.{sym}
use Rattle.thumb_model.specs.States.{ends, Fault}
use Rattle.thumb_model.specs.Accesses.{loads_many}
use Rattle.thumb_machine.specs.Acting.{world_of}
use Rattle.thumb_machine.proofs.Acts.{acts_by, load_many_faults}
use Rattle.thumb_machine.proofs.world.World.load_many.Goals as goal

pub returns-then-not-is_aligned : goal.returns-then-not-is_aligned
returns-then-not-is_aligned c =
    acts_by (loads_many c.args.base c.args.address c.args.list.now) (ends (Fault c.args.address)) c.args.self.now c.args.answers.now c.finish.new.self c.args.answers.now c.finish.result
    (load_many_faults c.args.base c.args.address c.args.list.now (world_of c.args.self.now c.args.answers.now) (sym c.if-not-is_aligned.ensures)) (c.finish.ensures c.args.answers.now)
