use Rattle.std.proofs.Common.{refl}
use Rattle.code_flow.proofs.finding.branches_if.Goals as goal

pub returns : goal.returns
returns c = λ list h. (c.jump.ensures c.args.place list h, (record { uses = h; writes = c.none.ensures; leads = refl }, tt))
