use Rattle.flow_tidy.proofs.Ending.{nothing_counts}
use Rattle.flow_tidy.proofs.chain_ends.Ends.none.Goals as goal

pub returns : goal.returns
returns c = nothing_counts _ _ c.args.count c.in_ok-found.found.items (c.in_ok-found.ensures.items_if_clones_equal (λ y k. k))
