use Rattle.std.proofs.Common.{◌≡◌, ◌∙◌, ℕ, suc, ◌+◌, List, ◌∷◌, ◌++◌, append_assoc, ap, arith, drop, length, length-append, map, replicate, sym}
use Rattle.std.specs.Prelude.{if◌then◌else◌}
use Rattle.std.proofs.lemmas.Grind.{common_steps}
use Rattle.std.proofs.lemmas.List.{drop_more, length-replicate}
use Rattle.thumb_model.specs.Listing.{ListingLine, places_in}
use Rattle.listing_parser.specs.Views.{line_view}
use Rattle.edited_listing.specs.Counting.{some_name}
use Rattle.edited_listing.specs.Known.{last_labels}
use Rattle.edited_listing.proofs.labels.labels_of.Goals as goal

-- one line more
lasts_more : (done new : List ℕ) (last now n : ℕ) (l : ListingLine) (ls : List ListingLine) → new ≡ done ++ replicate n now → now ≡ (if some_name l.names then suc (length done) else last) → n ≡ length (places_in l.statement) → new ++ last_labels (length new) now ls ≡ done ++ last_labels (length done) last (l ∷ ls)
lasts_more done new last now n l ls e m k =
    let long : length new ≡ length done + n = ap (λ (xs : List ℕ). length xs) e ∙ length-append done (replicate n now) ∙ ap (λ x. length done + x) (length-replicate n now) in
    ap (λ xs. xs ++ last_labels (length new) now ls) e ∙ append_assoc done (replicate n now) (last_labels (length new) now ls)
    ∙ ap (λ p. done ++ (replicate n now ++ last_labels p now ls)) long
    ∙ ap (λ j. done ++ (replicate j now ++ last_labels (length done + j) now ls)) k
    ∙ ap (λ t. done ++ (replicate (length (places_in l.statement)) t ++ last_labels (length done + length (places_in l.statement)) t ls)) m

pub loop-line-preserved : goal.loop-line-preserved
loop-line-preserved c =
    let done = c.loop-line.lasts.items in
    let behind = drop (c.loop-line.line-index + 1) c.args.lines.now in
    let now : c.last_with-last.result ≡ (if some_name (line_view c.line-item.result).names then suc (length c.loop-line.lasts.items) else c.loop-line.last) = grind (arith, common_steps) in
    record {
      lasts = lasts_more done c.add_times.new.numbers.items c.loop-line.last c.last_with-last.result c.places.result (line_view c.line-item.result) (map line_view behind) c.in_ok-add_times.ensures now c.places.ensures
          ∙ ap (λ xs. done ++ last_labels (length done) c.loop-line.last (map line_view xs)) (sym (drop_more c.args.lines.now c.loop-line.line-index c.line-item.result c.loop-line-test.true ∙ ap (λ x. x ∷ behind) (sym c.line-item.is)))
          ∙ c.loop-line.invariant.lasts;
      labelled = grind (arith, common_steps);
    }
