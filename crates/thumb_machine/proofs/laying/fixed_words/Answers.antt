use Rattle.std.proofs.Common.{◌∙◌, ◌≤◌, List, ap, arith, length, map, subst}
use Rattle.std.specs.List.{flat_map}
use Rattle.std.proofs.lemmas.List.{take_all}
use Rattle.thumb_model.specs.Listing.{ListingLine}
use Rattle.listing_parser.specs.Views.{line_view}
use Rattle.listing_parser.specs.Targets.{defined_in}
use Rattle.thumb_machine.specs.Words.{AreFixed}
use Rattle.thumb_machine.proofs.WordLemmas.{all_fixed}
use Rattle.thumb_machine.proofs.laying.fixed_words.Goals as goal

pub returns : goal.returns
returns c =
    let all : length c.lines-line-items.result.now ≤ c.loop-line.line-index = omega arith in
    all_fixed c.args.layout.now.base c.args.listing.now c.loop-line.words.entries
    (subst (λ (ls : List ListingLine). AreFixed c.args.layout.now.base c.args.listing.now (flat_map defined_in ls) c.loop-line.words.entries)
    (ap (map line_view) (take_all c.loop-line.line-index c.lines-line-items.result.now all) ∙ c.lines-line-items.ensures) c.loop-line.invariant)
