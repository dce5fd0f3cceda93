use Rattle.std.proofs.Common.{◌∙◌, List, ap, arith, length, subst, sym}
use Rattle.thumb_model.specs.Listing.{ListingLine, places_of}
use Rattle.listing_parser.specs.Parsing.{own_line}
use Rattle.listing_parser.specs.Targets.{DefineOnce}
use Rattle.edited_listing.specs.declared.standing.Standing.{Standing}
use Rattle.edited_listing.specs.Items.{items_from}
use Rattle.edited_listing.specs.Emitting.{lines_from}
use Rattle.edited_listing.proofs.Held.{few_now}
use Rattle.edited_listing.proofs.listing.EditedListing.into_listing.Goals as goal

pub of-requires-clause-few : goal.of-requires-clause-few
of-requires-clause-few c =
    let all = c.in_ok-lines.ensures ∙ ap (λ (ls : List ListingLine). lines_from own_line 0 (items_from 0 c.deref.result.now) ls) (c.into_lines.ensures.lines ∙ c.into_listing-listing.ensures) ∙ ap (λ (ss : List Standing). lines_from own_line 0 (items_from 0 ss) c.self.inside.listing) c.deref.ensures.value in
    let same = ap (λ (ls : List ListingLine). length (places_of ls)) all in
    let few = few_now c.self.inside.listing c.self.inside.stands.items c.self.inside.kept c.self.inside.is_changed c.self.inside.labelled.items c.self.inside.line_count c.self.invariant in
    omega arith

pub of-requires-clause-once : goal.of-requires-clause-once
of-requires-clause-once c =
    let all = c.in_ok-lines.ensures ∙ ap (λ (ls : List ListingLine). lines_from own_line 0 (items_from 0 c.deref.result.now) ls) (c.into_lines.ensures.lines ∙ c.into_listing-listing.ensures) ∙ ap (λ (ss : List Standing). lines_from own_line 0 (items_from 0 ss) c.self.inside.listing) c.deref.ensures.value in
    subst DefineOnce (sym all) (c.self.invariant.once (subst DefineOnce c.into_listing-listing.ensures c.into_lines.ensures.once))
