use Rattle.std.proofs.Common.{◌∙◌}
use Rattle.edited_listing.proofs.Held.{given_more}
use Rattle.edited_listing.proofs.listing.all_given.Goals as goal

pub loop-place-preserved : goal.loop-place-preserved
loop-place-preserved c = c.in_ok-push.ensures.items ∙ given_more c.loop-place._place c.loop-place.stands.items c.loop-place.invariant
