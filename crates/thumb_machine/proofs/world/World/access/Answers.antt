use Rattle.std.proofs.Common.{sym}
use Rattle.thumb_model.specs.Accesses.{accesses, stores}
use Rattle.thumb_machine.specs.Acting.{world_of}
use Rattle.thumb_machine.proofs.Acts.{acts_by, is_stored}
use Rattle.thumb_machine.proofs.world.World.access.Goals as goal

pub returns-then-is_store : goal.returns-then-is_store
returns-then-is_store c =
    acts_by (λ w. accesses c.args.access c.args.target c.args.address (w.values c.args.target) w) (stores c.args.access c.args.address c.get-value.result)
    c.args.self.now c.args.answers.now c.store.new.self c.args.answers.now c.store.result
    (rw (← c.get-value.ensures)
    (is_stored c.args.access c.args.target c.args.address c.get-value.result (world_of c.args.self.now c.args.answers.now) (sym c.if-is_store.ensures)))
    (c.store.ensures c.args.answers.now)
