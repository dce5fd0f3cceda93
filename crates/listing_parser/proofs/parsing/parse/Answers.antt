use Rattle.std.proofs.Common.{List, map, refl, subst}
use Rattle.listing_parser.specs.declared.line.ListingLine.{ListingLine as Lines}
use Rattle.listing_parser.specs.Views.{line_view}
use Rattle.listing_parser.specs.ToldView.{read_view}
use Rattle.listing_parser.specs.Targets.{DefineOnce}
use Rattle.listing_parser.proofs.FewLemmas.{few_places}
use Rattle.listing_parser.proofs.ParseLemmas.{refused_line, defined_twice, listed, off_target}
use Rattle.listing_parser.proofs.parsing.parse.Goals as goal

pub returns-in-Err : goal.returns-in-Err
returns-in-Err c = refused_line c.args.text.now c.in-Err.error c.in-Err.ensures

pub returns-in-Some : goal.returns-in-Some
returns-in-Some c = defined_twice c.args.text.now c.in-Ok.lines.items c.deref.result.now c.in-Some.number c.in-Ok.ensures c.deref.ensures.value (rw c.in-Some.is at c.in_ok-number.ensures)

pub of-requires-clause-few : goal.of-requires-clause-few
of-requires-clause-few c = few_places line_view read_view c.args.text.now c.in-Ok.lines.items (λ x. refl) c.in-Ok.ensures

pub returns-in-None : goal.returns-in-None
returns-in-None c =
    let once : DefineOnce c.in_ok-listing.listing = subst DefineOnce c.listing.view_is c.listing.invariant.once in
    listed c.args.text.now c.in-Ok.lines.items c.deref-2.result.now c.in_ok-listing.listing (map (λ k. k.items) c.in_ok-functions.functions.keys) _
    c.in-Ok.ensures c.in_ok-listing.ensures once c.deref-2.ensures.value c.in_ok-functions.ensures c.first_target.ensures c.in-None.is

pub returns : goal.returns
returns c =
    let once : DefineOnce c.in_ok-listing.listing = subst DefineOnce c.listing.view_is c.listing.invariant.once in
    off_target c.args.text.now c.in-Ok.lines.items c.deref-2.result.now c.in_ok-listing.listing (map (λ k. k.items) c.in_ok-functions.functions.keys) _ c.in-Some-first_target.number
    c.in-Ok.ensures c.in_ok-listing.ensures once c.deref-2.ensures.value c.in_ok-functions.ensures c.first_target.ensures c.in-Some-first_target.is

pub of-requires-clause-once : goal.of-requires-clause-once
of-requires-clause-once c =
    let once = rw c.in_default.is at c.in_ok-number.ensures in
    subst (λ (ls : List Lines). DefineOnce (map line_view ls)) c.deref.ensures.value once
