use Rattle.seq_enum.proofs.Mnemonics.{IsPlace-parts}
use Rattle.seq_enum.proofs.members.place_of_parts.Goals as goal

pub returns-clause-value : goal.returns-clause-value
returns-clause-value c =
    rw (c.tripled.ensures.value, c.count_of_second.ensures.value, c.count_of-count.ensures.value, c.roles-roles.ensures)
    (IsPlace-parts c.args.k c.args.pool.now c.args.parts.now.kind c.args.parts.now.first c.args.parts.now.second c.args.parts.now.third _ _ _
    (rw (← c.roles-roles.ensures) c.place_of-first.ensures.value) c.place_of_second-second.ensures.value (rw (← c.roles-roles.ensures) c.place_of-third.ensures.value))
