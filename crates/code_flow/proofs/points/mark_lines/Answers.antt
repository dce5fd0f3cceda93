use Rattle.std.proofs.Common.{◌≡◌, ◌∙◌, ◌∷◌, ◌+◌, ◌||◌, drop, map, length, List, refl, sym, ap}
use Rattle.thumb_model.specs.Effect.{one_of}
use Rattle.thumb_model.specs.Listing.{ListingLine, places_of, label_places, labels_from, return_places}
use Rattle.listing_parser.specs.Views.{line_view}
use Rattle.kept_places.specs.Marks.{marked}
use Rattle.code_flow.proofs.Marking.{line_step, places_next}
use Rattle.code_flow.proofs.points.mark_lines.Goals as goal
use Rattle.listing_parser.proofs.Shared.{next_line}

pub loop-line-preserved : goal.loop-line-preserved
loop-line-preserved c =
    let line : ListingLine = line_view c.line-item.result in
    let behind : List ListingLine = map line_view (drop (c.loop-line.line-index + 1) c.args.lines.now) in
    let here : map line_view (drop c.loop-line.line-index c.args.lines.now) ≡ line ∷ behind = next_line c.args.lines.now c.loop-line.line-index c.line-item.result c.loop-line-test.true c.line-item.is in
    record {
      places =
          places_next c.loop-line.place c.places.result line behind c.places.ensures
          ∙ ap (λ (ls : List ListingLine). c.loop-line.place + length (places_of ls)) (sym here)
          ∙ c.loop-line.invariant.places;
      len = c.mark-in-loop-line.ensures.len ∙ c.mark.ensures.len ∙ c.loop-line.invariant.len;
      marks = λ q.
          line_step (marked c.loop-line.marks.items q) (marked c.mark.new.marks.items q) (marked c.mark-in-loop-line.new.marks.items q) (places_of c.args.listing.now) q c.loop-line.place c.places.result line behind c.places.ensures
          (c.mark.ensures.marks q ∙ rw c.labels_code.ensures refl) (c.mark-in-loop-line.ensures.marks q ∙ rw c.is_call_line.ensures refl)
          ∙ ap (λ (ls : List ListingLine). marked c.loop-line.marks.items q || one_of q (label_places (places_of c.args.listing.now) (labels_from c.loop-line.place ls)) || one_of q (return_places c.loop-line.place (places_of ls))) (sym here)
          ∙ c.loop-line.invariant.marks q;
    }
