use Rattle.seq_enum.proofs.Mnemonics.{seconds_are}
use Rattle.seq_enum.proofs.values.place_of_second.Goals as goal

pub returns-in_default : goal.returns-in_default
returns-in_default c =
    rw (seconds_are c.args.k c.args.pool.now c.args.kind c.args.first c.in_default.not-ThreeNumber, ← c.roles.ensures) c.place_of.ensures
