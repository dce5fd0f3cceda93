use Rattle.std.proofs.Common.{◌∙◌, List, ap, false, subst, sym}
use Rattle.thumb_model.specs.Listing.{ListingLine}
use Rattle.edited_listing.specs.Counting.{op_labels}
use Rattle.edited_listing.specs.Edited.{lines_now}
use Rattle.edited_listing.specs.Invariant.{Holds}
use Rattle.edited_listing.specs.Known.{last_labels}
use Rattle.edited_listing.proofs.Held.{holds_first, lines_first}
use Rattle.edited_listing.proofs.listing.EditedListing.new.Goals as goal

pub invariant_of-result : goal.invariant_of-result
invariant_of-result c =
    subst (λ (ls : List ListingLine). Holds ls c.in_ok-stands.stands.items c.in_ok-kept.kept false c.in_ok-labels.labels.labelled.items c.count_lines-line_count.result) (sym c.in_ok-listing.ensures)
    (holds_first c.args.listing c.place_count-count.result c.in_ok-stands.stands.items c.in_ok-kept.kept c.in_ok-labels.labels.labelled.items c.count_lines-line_count.result c.place_count-count.ensures c.place_count-count.type_inv c.in_ok-stands.ensures c.in_ok-kept.ensures
    (c.in_ok-labels.ensures.labelled ∙ ap op_labels c.lines.ensures) c.count_lines-line_count.ensures.same c.count_lines-line_count.ensures.short)

pub new-requires-2 : goal.new-requires-2
new-requires-2 c = c.in_ok-labels.ensures.lasts ∙ ap (last_labels 0 0) c.lines.ensures

pub returns-clause-lines : goal.returns-clause-lines
returns-clause-lines c =
    ap (λ (ls : List ListingLine). lines_now (record { given = ls; stands = c.in_ok-stands.stands.items })) c.in_ok-listing.ensures
    ∙ lines_first c.args.listing c.place_count-count.result c.in_ok-stands.stands.items c.place_count-count.ensures c.in_ok-stands.ensures
