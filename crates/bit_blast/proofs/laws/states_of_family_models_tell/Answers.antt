use Rattle.bit_blast.proofs.Families.{family_models_give_states}
use Rattle.bit_blast.proofs.laws.states_of_family_models_tell.Goals as goal

pub returns : goal.returns
returns c = family_models_give_states
