use Rattle.std.proofs.Common.{◌≡◌, replicate}
use Rattle.edited_listing.specs.declared.standing.Standing.TheVariants as standing
use Rattle.edited_listing.proofs.listing.all_given.Given as goal

abbrev pub invariant-loop-place : goal.invariant-loop-place
invariant-loop-place l = l.stands.items ≡ replicate l._place standing.Given
