use Rattle.std.proofs.Common.{◌∙◌, ap}
use Rattle.listing_draft.specs.Invariant.{names_of}
use Rattle.listing_draft.proofs.Drafts.{none_more}
use Rattle.listing_draft.proofs.draft.none_aimed.Goals as goal

pub loop-place-preserved : goal.loop-place-preserved
loop-place-preserved c = ap names_of c.in_ok-push.ensures.items ∙ none_more c.loop-place._place c.loop-place.aims.items c.loop-place.invariant
