use Rattle.bit_blast.proofs.Ends.{small_power}
use Rattle.bit_blast.proofs.shifts.places.Goals as goal

pub returns-clause-within : goal.returns-clause-within
returns-clause-within c = small_power c.args.j c.requires
