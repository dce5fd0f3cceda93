use Rattle.thumb_model.proofs.Lists.{length_map}
use Rattle.std.proofs.Common.{◌≡◌, ◌∙◌, ℕ, refl, ◌<◌, ◌≤◌, List, Some, map, option_map, slice_get, length, get_or, ltb-true, ltb-false, sym, ap, arith}
use Rattle.thumb_model.specs.Listing.{ListingLine, places_of, places_in}
use Rattle.listing_parser.specs.Views.{line_view, statement_view}
use Rattle.listing_parser.specs.TableWords.{spots_from}
use Rattle.listing_parser.specs.declared.index.Spot.{Spot}
use Rattle.listing_parser.specs.declared.line.ListingLine.{ListingLine as Lines}
use Rattle.std.proofs.lemmas.Option.{slice_get_within, slice_get_read, slice_get_past, slice_get-map}
use Rattle.listing_parser.proofs.SpotLemmas.{Stands, stands, spots_length}
use Rattle.listing_parser.proofs.listing.Listing.place.Goals as goal

spot_stands : (ls : List ListingLine) (xs ys : List Spot) (p : ℕ) (s : Spot) → ys ≡ xs → xs ≡ spots_from 0 ls → p < length ys → s ≡ get_or ys p s → Stands 0 ls p s
spot_stands ls xs ys p s same all h at = stands 0 ls p s (ap (λ (zs : List Spot). slice_get zs p) (sym all ∙ sym same) ∙ slice_get_read ys (length ys) p s refl h at)

place_read : (ls : List Lines) (p : ℕ) (s : Spot) (l : Lines) → Stands 0 (map line_view ls) p s → l ≡ get_or ls s.line l → slice_get (places_in (statement_view l.statement)) s.item ≡ slice_get (places_of (map line_view ls)) p
place_read ls p s l at is =
    let line : s.line ≡ at.index = omega (arith, at.at) in
    let shown : slice_get (map line_view ls) s.line ≡ Some at.line = ap (slice_get (map line_view ls)) line ∙ at.is_line in
    let within = slice_get_within (map line_view ls) s.line at.line shown in
    let read : slice_get ls s.line ≡ Some l = slice_get_read ls (length ls) s.line l refl (omega (arith, length_map line_view ls)) is in
    let both : Some (line_view l) ≡ Some at.line = sym (slice_get-map line_view ls s.line ∙ ap (option_map line_view) read) ∙ shown in
    let same : line_view l ≡ at.line = cc in
    ap (λ (x : ListingLine). slice_get (places_in x.statement) s.item) same ∙ sym at.same

pub index-requires : goal.index-requires
index-requires c =
    let at = spot_stands (map line_view c.self.inside.lines.items) c.self.inside.index.spots.items c.deref.result.now c.args.place c.in-Some.spot.now c.deref.ensures.value c.self.invariant.spots (ltb-true _ _ (sym c.in-Some.ensures.lookup.0)) c.in-Some.ensures.lookup.1 in
    let within = slice_get_within (map line_view c.self.inside.lines.items) at.index at.line at.is_line in
    omega (arith, at.at, length_map line_view c.self.inside.lines.items, c.self.inside.lines.ok)

pub returns-in-None : goal.returns-in-None
returns-in-None c =
    let h : length c.deref.result.now ≤ c.args.place = ltb-false _ _ (sym c.in-None.ensures.lookup.0) in
    let all : length c.self.inside.index.spots.items ≡ length (places_of (map line_view c.self.inside.lines.items)) = ap (λ (xs : List Spot). length xs) c.self.invariant.spots ∙ spots_length 0 (map line_view c.self.inside.lines.items) in
    let same = ap (λ (ls : List ListingLine). length (places_of ls)) c.self.view_is in
    sym (slice_get_past (places_of c.args.self.now) c.args.place (omega (arith, ap (λ (xs : List Spot). length xs) c.deref.ensures.value)))

pub returns-in-Some : goal.returns-in-Some
returns-in-Some c =
    let at = spot_stands (map line_view c.self.inside.lines.items) c.self.inside.index.spots.items c.deref.result.now c.args.place c.in-Some.spot.now c.deref.ensures.value c.self.invariant.spots (ltb-true _ _ (sym c.in-Some.ensures.lookup.0)) c.in-Some.ensures.lookup.1 in
    c.place_in.ensures ∙ place_read c.self.inside.lines.items c.args.place c.in-Some.spot.now c.index.result.now at c.index.ensures
    ∙ ap (λ (ls : List ListingLine). slice_get (places_of ls) c.args.place) c.self.view_is
