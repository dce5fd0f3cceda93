use Rattle.table_audit.proofs.Ones.{cheapest_is_shortest}
use Rattle.table_audit.proofs.laws.cheapest_is_shortest_at_costs_of_one.Goals as goal

pub returns : goal.returns
returns c = cheapest_is_shortest
