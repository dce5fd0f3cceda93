use Rattle.thumb_assembler.proofs.Determined.{determined}
use Rattle.thumb_assembler.proofs.laws.image_runs_are_determined.Goals as goal

pub returns : goal.returns
returns c = determined
