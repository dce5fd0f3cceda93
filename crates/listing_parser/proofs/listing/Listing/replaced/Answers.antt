use Rattle.std.proofs.Common.{◌∙◌, ◌+◌, List, map, ap, arith, length, subst, sym}
use Rattle.std.specs.Prelude.{slice_get}
use Rattle.thumb_model.specs.Listing.{ListingLine, places_of, is_op_place}
use Rattle.thumb_model.specs.Replaced.{replaced_lines}
use Rattle.listing_parser.specs.declared.line.ListingLine.{ListingLine as Lines}
use Rattle.listing_parser.specs.Targets.{DefineOnce}
use Rattle.listing_parser.specs.Views.{line_view}
use Rattle.listing_parser.specs.Parsing.{own_line}
use Rattle.listing_parser.proofs.ReplaceLemmas.{still_once, still_few}
use Rattle.listing_parser.proofs.listing.Listing.replaced.Goals as goal

pub of-requires-clause-few : goal.of-requires-clause-few
of-requires-clause-few c =
    let all = c.in_ok-lines.ensures ∙ ap (λ (ls : List Lines). replaced_lines own_line c.args.place c.args.count c.args.instrs.now (map line_view ls)) c.deref.ensures.value in
    let same = ap (λ (ls : List ListingLine). length (places_of ls)) all in
    let few = still_few own_line c.args.place c.args.count c.args.instrs.now (map line_view c.self.inside.lines.items) c.requires.some c.requires.few
    (λ k h. ap (λ (ls : List ListingLine). is_op_place (slice_get (places_of ls) (c.args.place + k))) c.self.view_is ∙ c.requires.window k h) c.self.invariant.few in
    omega arith

pub of-requires-clause-once : goal.of-requires-clause-once
of-requires-clause-once c =
    let all = c.in_ok-lines.ensures ∙ ap (λ (ls : List Lines). replaced_lines own_line c.args.place c.args.count c.args.instrs.now (map line_view ls)) c.deref.ensures.value in
    subst DefineOnce (sym all) (still_once own_line c.args.place c.args.count c.args.instrs.now (map line_view c.self.inside.lines.items) c.self.invariant.once)
