use Rattle.std.proofs.Common.{subst}
use Rattle.listing_draft.specs.Invariant.{IsDraft}
use Rattle.listing_draft.proofs.draft.Draft.place_count.Goals as goal

pub returns-clause-draft : goal.returns-clause-draft
returns-clause-draft c = subst IsDraft c.self.view_is c.self.invariant.draft
