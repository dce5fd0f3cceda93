use Rattle.bit_blast.proofs.Holes.{side_itself}
use Rattle.bit_blast.proofs.laws.sides_are_their_own_instances.Goals as goal

pub returns : goal.returns
returns c = side_itself
