use Rattle.std.proofs.Common.{◌∙◌, ◌+◌, ◌++◌, ◌^◌, ℕ, List, map, drop, sym, ap, arith, append_assoc, Option, Some, if◌then◌else◌}
use Rattle.std.proofs.lemmas.List.{append-nil}
use Rattle.std.proofs.Math.ListN.{drop_of_length-le}
use Rattle.std.specs.Map.{lookup}
use Rattle.thumb_model.specs.Listing.{ListingLine}
use Rattle.thumb_model.specs.Layout.{size_at, end_of, label_address, is_among, or_else}
use Rattle.label_layout.specs.Addresses.{is_key}
use Rattle.listing_parser.specs.Views.{line_view, statement_view, names_view}
use Rattle.listing_parser.specs.declared.line.ListingLine.{ListingLine as Lines}
use Rattle.label_layout.specs.Addresses.{addresses_in, addresses_from}
use Rattle.label_layout.proofs.Labels.{label_more, or_none}
use Rattle.label_layout.proofs.Sums.{stepped, in_code}
use Rattle.label_layout.proofs.laying.lay.Goals as goal
use Rattle.listing_parser.proofs.Shared.{next_line}

pub loop-line-preserved : goal.loop-line-preserved
loop-line-preserved c =
    let line = c.line-item.result in
    let here = statement_view line.statement in
    let at = c.loop-line.at in
    let rest = map line_view (drop (c.loop-line.line-index + 1) c.args.lines.now) in
    let split = next_line c.args.lines.now c.loop-line.line-index line c.loop-line-test.true c.line-item.is in
    let step = stepped (at + size_at here at) (2 ^ 29) c.in-Some.next c.in-Some.ensures in
    record {
      in_code = omega (arith, step.0, step.1);
      end = ap (λ (n : ℕ). end_of n rest) step.0 ∙ sym (ap (end_of at) split) ∙ c.loop-line.invariant.end;
      places =
          ap (λ (xs : List ℕ). xs ++ addresses_from c.in-Some.next rest) c.in_ok-add_places.ensures
          ∙ append_assoc c.loop-line.places.items (addresses_in at here) (addresses_from c.in-Some.next rest)
          ∙ ap (λ (n : ℕ). c.loop-line.places.items ++ (addresses_in at here ++ addresses_from n rest)) step.0
          ∙ ap (λ (ls : List ListingLine). c.loop-line.places.items ++ addresses_from at ls) (sym split)
          ∙ c.loop-line.invariant.places;
      label = λ q.
          ap (λ (o : Option ℕ). or_else o (label_address q c.in-Some.next rest)) (rw c.deref.ensures.value at (c.in_ok-add_labels.ensures q))
          ∙ label_more (lookup (is_key q) c.loop-line.labels.entries) (is_among q (names_view line)) at (label_address q c.in-Some.next rest)
          ∙ ap (λ (n : ℕ). or_else (lookup (is_key q) c.loop-line.labels.entries) (if is_among q (names_view line) then Some at else label_address q n rest)) step.0
          ∙ ap (λ (ls : List ListingLine). or_else (lookup (is_key q) c.loop-line.labels.entries) (label_address q at ls)) (sym split)
          ∙ c.loop-line.invariant.label q;
    }

pub invariant_of-result : goal.invariant_of-result
invariant_of-result c =
    let rest = drop_of_length-le c.args.lines.now c.loop-line-test.false in
    let is_end = ap (λ (ls : List Lines). end_of c.loop-line.at (map line_view ls)) rest in
    let are_places = ap (λ (ls : List Lines). c.loop-line.places.items ++ addresses_from c.loop-line.at (map line_view ls)) rest in
    in_code (record { base = c.args.base; end = c.loop-line.at; places = c.loop-line.places.items; labels = c.loop-line.labels.entries }) (map line_view c.args.lines.now)
    (record {
      end = sym is_end ∙ c.loop-line.invariant.end;
      places = sym (append-nil c.loop-line.places.items) ∙ sym are_places ∙ c.loop-line.invariant.places;
      label = λ q. sym (or_none (lookup (is_key q) c.loop-line.labels.entries)) ∙ sym (ap (λ (ls : List Lines). or_else (lookup (is_key q) c.loop-line.labels.entries) (label_address q c.loop-line.at (map line_view ls))) rest) ∙ c.loop-line.invariant.label q;
    })
    c.loop-line.invariant.in_code
