use Rattle.edited_listing.proofs.Steps.{IsGiving}
use Rattle.edited_listing.proofs.giving.give_way.Given as goal

abbrev pub invariant-loop-before : goal.invariant-loop-before
invariant-loop-before l = IsGiving l.place l.count l.new l.home l.initial.stands.items l.from l.before l.stands.items l.kept
