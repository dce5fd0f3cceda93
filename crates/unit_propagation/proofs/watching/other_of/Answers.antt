use Rattle.std.proofs.Common.{ℕ, ◌-◌}
use Rattle.clause_arena.specs.Contents.{Watches}
use Rattle.unit_propagation.proofs.Steps.{other_watched}
use Rattle.unit_propagation.proofs.watching.other_of.Goals as goal

pub returns-in-Some : goal.returns-in-Some
returns-in-Some c = (c.watched.ensures.some c.in-Some.literal).0 c.in-Some.is

pub returns-in-None : goal.returns-in-None
returns-in-None c =
    let v : (other : ℕ) × Watches c.args.arena.now c.args.at (1 - c.args.slot) other = other_watched c.args.arena.now c.args.at c.args.slot c.requires.watches.0 c.requires.slot c.requires.attached c.requires.watches.1 in
    absurd (c.watched.ensures.none.0 c.in-None.is v.0 v.1)
