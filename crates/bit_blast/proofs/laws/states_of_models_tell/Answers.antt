use Rattle.bit_blast.proofs.Exact.{models_give_states}
use Rattle.bit_blast.proofs.laws.states_of_models_tell.Goals as goal

pub returns : goal.returns
returns c = models_give_states
