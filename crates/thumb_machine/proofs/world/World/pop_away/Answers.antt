use Rattle.std.proofs.Common.{sym}
use Rattle.thumb_model.specs.States.{ends, Fault}
use Rattle.thumb_model.specs.Acts.{popped_word, pops}
use Rattle.thumb_machine.specs.Acting.{world_of}
use Rattle.thumb_machine.proofs.Acts.{acts_by}
use Rattle.thumb_machine.proofs.Popped.{pop_faults}
use Rattle.thumb_machine.proofs.world.World.pop_away.Goals as goal

pub returns-then-not-is_aligned : goal.returns-then-not-is_aligned
returns-then-not-is_aligned g c =
    acts_by (λ w. pops (g.P.Lands.lands c.args.place.now (popped_word c.args.address c.args.list.now w)) c.args.address c.args.list.now w) (ends (Fault c.args.address)) c.args.self.now c.args.answers.now
    c.finish.new.self c.args.answers.now c.finish.result
    (pop_faults (g.P.Lands.lands c.args.place.now (popped_word c.args.address c.args.list.now (world_of c.args.self.now c.args.answers.now))) c.args.address c.args.list.now (world_of c.args.self.now c.args.answers.now)
    (sym c.if-not-is_aligned.ensures)) (c.finish.ensures c.args.answers.now)
