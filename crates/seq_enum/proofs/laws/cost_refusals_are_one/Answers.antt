use Rattle.seq_enum.proofs.CostReading.{not_both, refused_once}
use Rattle.seq_enum.proofs.laws.cost_refusals_are_one.Goals as goal

pub returns : goal.returns
returns c = record { not_both = not_both; once = refused_once }
