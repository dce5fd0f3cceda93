use Rattle.std.proofs.Common.{◌≡◌, ◌+◌, ◌++◌, ◌∷◌, List, arith, drop, map, length, ◌∙◌, ap, sym}
use Rattle.std.proofs.lemmas.Grind.{common_steps}
use Rattle.std.specs.Map.{lookup}
use Rattle.thumb_syntax.specs.Operands.{or_else}
use Rattle.thumb_model.specs.Layout.{set_address}
use Rattle.thumb_model.specs.Listing.{ListingLine as Line, places_of}
use Rattle.listing_parser.specs.Views.{line_view}
use Rattle.listing_parser.specs.TableWords.{is_key, label_line, passed_from, spots_from}
use Rattle.listing_parser.proofs.Shared.{next_line}
use Rattle.listing_parser.proofs.TableLemmas.{spots_next, passed_next, places_next, labels_next, addresses_next}
use Rattle.listing_parser.proofs.index.tables.Goals as goal

pub loop-n-preserved : goal.loop-n-preserved
loop-n-preserved c =
    let line : Line = line_view c.index-lines-n.result in
    let rest : List Line = map line_view (drop (c.loop-n.n + 1) c.args.lines.now) in
    let next : line ∷ rest ≡ map line_view (drop c.loop-n.n c.args.lines.now) = sym (next_line c.args.lines.now c.loop-n.n c.index-lines-n.result (omega (arith, c.loop-n-test.true)) c.index-lines-n.is) in
    record {
      spots = spots_next c.loop-n.index.spots.items _ c.loop-n.n line rest c.in_ok-add_line.ensures.spots ∙ ap (λ ls. c.loop-n.index.spots.items ++ spots_from c.loop-n.n ls) next ∙ c.loop-n.invariant.spots;
      passed = passed_next c.loop-n.index.passed.items _ c.loop-n.places c.places.result line rest c.in_ok-add_line.ensures.passed c.places.ensures ∙ ap (λ ls. c.loop-n.index.passed.items ++ passed_from c.loop-n.places ls) next ∙ c.loop-n.invariant.passed;
      places = places_next c.loop-n.places c.places.result line rest c.places.ensures ∙ ap (λ ls. c.loop-n.places + length (places_of ls)) next ∙ c.loop-n.invariant.places;
      labels = λ q. labels_next q (lookup (is_key q) c.loop-n.index.labels.entries) _ c.loop-n.n line rest (c.in_ok-add_line.ensures.labels q) ∙ ap (λ ls. or_else (lookup (is_key q) c.loop-n.index.labels.entries) (label_line q c.loop-n.n ls)) next ∙ c.loop-n.invariant.labels q;
      addresses = λ q. addresses_next q (lookup (is_key q) c.loop-n.index.addresses.entries) _ line rest (c.in_ok-add_line.ensures.addresses q) ∙ ap (λ ls. or_else (lookup (is_key q) c.loop-n.index.addresses.entries) (set_address q ls)) next ∙ c.loop-n.invariant.addresses q;
    }

pub returns-clause-labels : goal.returns-clause-labels
returns-clause-labels c = grind (arith, common_steps)

pub returns-clause-addresses : goal.returns-clause-addresses
returns-clause-addresses c = grind (arith, common_steps)
