use Rattle.std.proofs.Common.{◌∙◌, IfOk, List, subst}
use Rattle.thumb_model.specs.Listing.{ListingLine}
use Rattle.flow_tidy.specs.Tidying.{setting}
use Rattle.flow_tidy.specs.Made.{IsAccepted}
use Rattle.flow_tidy.proofs.Lines.{joined_one, without_one}
use Rattle.flow_tidy.proofs.changing.without.Goals as goal

pub replaced-requires-clause-joined : goal.replaced-requires-clause-joined
replaced-requires-clause-joined c = joined_one c.args.place c.args.listing.now

pub returns : goal.returns
returns c =
    subst (λ (ls : List ListingLine). IfOk c.accepted.result (IsAccepted (setting c.args.base) ls)) (c.in_ok-new.ensures ∙ without_one c.args.base c.args.place c.args.listing.now) c.accepted.ensures
