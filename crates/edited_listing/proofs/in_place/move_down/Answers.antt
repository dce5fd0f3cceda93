use Rattle.std.proofs.Common.{◌≡◌, ◌∙◌, ◌+◌, ◌<◌, ◌++◌, List, drop, length, map, take, ap, arith}
use Rattle.std.proofs.lemmas.List.{length-map}
use Rattle.listing_parser.specs.Views.{line_view}
use Rattle.listing_parser.specs.declared.line.ListingLine.{ListingLine as Lines}
use Rattle.edited_listing.proofs.Progress.{in_its_place, swapped}
use Rattle.edited_listing.proofs.in_place.move_down.Goals as goal

pub returns-then-to-from-clause-moved : goal.returns-then-to-from-clause-moved
returns-then-to-from-clause-moved c = ap (λ (l : List Lines). take (c.args.to + 1) (map line_view l)) c.swap.ensures.items ∙ (swapped c.args.lines.now.items c.args.to c.args.from c.if-to-from.true c.requires.within).0

pub returns-then-to-from-clause-behind : goal.returns-then-to-from-clause-behind
returns-then-to-from-clause-behind c = ap (λ (l : List Lines). drop (c.args.from + 1) (map line_view l)) c.swap.ensures.items ∙ (swapped c.args.lines.now.items c.args.to c.args.from c.if-to-from.true c.requires.within).1

pub returns-else-to-from-clause-moved : goal.returns-else-to-from-clause-moved
returns-else-to-from-clause-moved c =
    let same : c.args.to ≡ c.args.from = omega (arith, c.requires.order, c.if-to-from.false) in
    let within : c.args.to < length (map line_view c.args.lines.now.items) = omega (arith, c.requires.within, length-map c.args.lines.now.items line_view) in
    in_its_place (map line_view c.args.lines.now.items) c.args.to within ∙ ap (λ n. take c.args.to (map line_view c.args.lines.now.items) ++ take 1 (drop n (map line_view c.args.lines.now.items))) same
