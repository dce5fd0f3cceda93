use Rattle.std.proofs.Common.{◌∙◌, List, length, map, ap, arith, subst, sym}
use Rattle.thumb_model.specs.Listing.{ListingLine, places_of}
use Rattle.listing_parser.specs.Parsing.{line_mentioning}
use Rattle.listing_parser.specs.Targets.{aimed_lines, DefineOnce}
use Rattle.listing_parser.specs.Views.{line_view}
use Rattle.listing_parser.specs.declared.line.ListingLine.{ListingLine as Lines}
use Rattle.listing_parser.proofs.ReplaceLemmas.{aimed_once, aimed_as_many}
use Rattle.listing_parser.proofs.listing.Listing.retargeted.Goals as goal

pub of-requires-clause-few : goal.of-requires-clause-few
of-requires-clause-few c =
    let all = c.in_ok-lines.ensures ∙ ap (λ (ls : List Lines). aimed_lines line_mentioning c.args.place c.args.name.now (map line_view ls)) c.deref.ensures.value in
    let same = ap (λ (ls : List ListingLine). length (places_of ls)) all in
    let many = aimed_as_many line_mentioning c.args.place c.args.name.now (map line_view c.self.inside.lines.items) in
    let few = c.self.invariant.few in
    omega arith

pub of-requires-clause-once : goal.of-requires-clause-once
of-requires-clause-once c =
    let all = c.in_ok-lines.ensures ∙ ap (λ (ls : List Lines). aimed_lines line_mentioning c.args.place c.args.name.now (map line_view ls)) c.deref.ensures.value in
    subst DefineOnce (sym all) (aimed_once line_mentioning c.args.place c.args.name.now (map line_view c.self.inside.lines.items) c.self.invariant.once)
