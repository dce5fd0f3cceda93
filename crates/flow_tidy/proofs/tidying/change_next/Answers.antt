use Rattle.std.proofs.Common.{sym, subst}
use Rattle.flow_tidy.specs.DuePlaces.{IsKnown}
use Rattle.flow_tidy.proofs.tidying.change_next.Goals as goal

pub returns-in_ok-listing-in-Some-clause-known : goal.returns-in_ok-listing-in-Some-clause-known
returns-in_ok-listing-in-Some-clause-known c =
    subst (λ ls. IsKnown ls c.settle.new.laid c.settle.new.reached c.settle.new.due) (sym c.in_ok-listing-in-Some.ensures.new) c.in_ok-listing-in-Some.ensures.known
