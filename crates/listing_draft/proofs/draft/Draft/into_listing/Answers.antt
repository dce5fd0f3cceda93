use Rattle.std.proofs.Common.{◌∙◌, List, map, ap, subst, sym}
use Rattle.thumb_model.specs.Listing.{ListingLine}
use Rattle.listing_parser.specs.Targets.{DefineOnce}
use Rattle.listing_parser.specs.Views.{line_view}
use Rattle.listing_draft.specs.Drafted.{now_of}
use Rattle.listing_draft.specs.Invariant.{names_of}
use Rattle.listing_draft.proofs.draft.Draft.into_listing.Goals as goal

pub of-requires-clause-once : goal.of-requires-clause-once
of-requires-clause-once c =
    let all = c.in_ok-lines.ensures ∙ ap (λ os. now_of c.self.inside.kept (names_of os) (map line_view c.into_lines.result.items)) c.deref.ensures.value ∙ ap (λ (ls : List ListingLine). now_of c.self.inside.kept (names_of c.self.inside.aims.items) ls) c.into_lines.ensures.lines in
    subst DefineOnce (sym all) c.self.invariant.draft.once
