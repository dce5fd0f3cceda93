use Rattle.std.proofs.Common.{◌-◌, length, ap, arith}
use Rattle.thumb_model.specs.Listing.{places_in}
use Rattle.listing_parser.specs.declared.line.ListingLine.{ListingLine}
use Rattle.listing_parser.specs.Views.{line_view}
use Rattle.listing_parser.proofs.RunLemmas.{room_read}
use Rattle.listing_parser.proofs.index.runs.Goals as goal

pub words_on-behind-requires : goal.words_on-behind-requires
words_on-behind-requires c =
    let within = c.loop-at.invariant.within in
    let least = room_read line_view c.args.lines.now (c.loop-at.at - 1) c.loop-at.at _ c.loop-at.behind (omega (arith, within, c.loop-at-test.true)) (omega (arith, c.loop-at-test.true)) c.index-lines-at.is c.loop-at.invariant.behind in
    let same = ap (λ (l : ListingLine). length (places_in (line_view l).statement)) c.index-lines-at.is in
    omega (arith, least, same, c.requires)
