use Rattle.rule_table.proofs.MapLemmas.{one_map}
use Rattle.rule_table.proofs.laws.maps_are_one.Goals as goal

pub returns : goal.returns
returns c = one_map
