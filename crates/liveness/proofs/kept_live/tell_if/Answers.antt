use Rattle.liveness.proofs.Losts.{told_one}
use Rattle.liveness.proofs.kept_live.tell_if.Goals as goal

pub returns-then-tells-clause-told : goal.returns-then-tells-clause-told
returns-then-tells-clause-told c = told_one c.args.places.now c.insert.new.self c.args.place c.args.tells c.requires c.if-tells.true c.insert.ensures
