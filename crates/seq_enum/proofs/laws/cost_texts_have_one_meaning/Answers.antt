use Rattle.seq_enum.proofs.CostReading.{one_meaning}
use Rattle.seq_enum.proofs.laws.cost_texts_have_one_meaning.Goals as goal

pub returns : goal.returns
returns c = one_meaning
