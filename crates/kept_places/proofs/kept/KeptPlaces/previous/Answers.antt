use Rattle.std.proofs.Common.{◌-◌, arith}
use Rattle.kept_places.proofs.Ranks.{first_kept, kept_before}
use Rattle.kept_places.proofs.kept.KeptPlaces.previous.Goals as goal

pub returns-then-start-eq0-clause-none : goal.returns-then-start-eq0-clause-none
returns-then-start-eq0-clause-none c = first_kept c.args.self.now c.args.place c.start-start.result c.start-start.ensures c.if-start-eq0.true

pub returns-else-start-eq0-clause-some : goal.returns-else-start-eq0-clause-some
returns-else-start-eq0-clause-some c = kept_before c.args.self.now c.args.place c.start-start.result (c.start-start.result - 1) c.start-start.ensures (omega (arith, c.if-start-eq0.false))
