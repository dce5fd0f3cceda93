use Rattle.std.proofs.Common.{sym}
use Rattle.thumb_model.specs.States.{ends, Fault}
use Rattle.thumb_model.specs.Accesses.{stores_many}
use Rattle.thumb_machine.specs.Acting.{world_of}
use Rattle.thumb_machine.proofs.Acts.{acts_by, store_many_faults}
use Rattle.thumb_machine.proofs.world.World.store_many.Goals as goal

pub returns-then-not-is_aligned : goal.returns-then-not-is_aligned
returns-then-not-is_aligned c = λ left.
    acts_by (stores_many c.args.base c.args.back c.args.address c.args.words.now) (ends (Fault c.args.address)) c.args.self.now left c.finish.new.self left c.finish.result
    (store_many_faults c.args.base c.args.back c.args.address c.args.words.now (world_of c.args.self.now left) (sym c.if-not-is_aligned.ensures)) (c.finish.ensures left)
