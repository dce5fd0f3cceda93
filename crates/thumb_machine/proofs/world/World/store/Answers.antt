use Rattle.std.proofs.Common.{sym}
use Rattle.thumb_model.specs.States.{ends, Fault}
use Rattle.thumb_model.specs.Accesses.{stores}
use Rattle.thumb_machine.specs.Acting.{world_of}
use Rattle.thumb_machine.proofs.Acts.{acts_by, store_faults}
use Rattle.thumb_machine.proofs.world.World.store.Goals as goal

pub returns-then-not-is_aligned : goal.returns-then-not-is_aligned
returns-then-not-is_aligned c = λ left.
    acts_by (stores c.args.access c.args.address c.args.value) (ends (Fault c.args.address)) c.args.self.now left c.finish.new.self left c.finish.result
    (store_faults c.args.access c.args.address c.access_size.result c.args.value (world_of c.args.self.now left) c.access_size.ensures.value (sym c.if-not-is_aligned.ensures))
    (c.finish.ensures left)
