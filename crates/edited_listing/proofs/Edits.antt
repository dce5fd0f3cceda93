-- The laws of listings that are being changed.
use Rattle.std.proofs.Common.{◌≡◌, ℕ, zero, suc, ◌+◌, List, length, refl, sym, ap, ◌∙◌, arith, drop, true, ◌≤◌}
use Rattle.thumb_instr.specs.declared.instr.Instr.{Instr}
use Rattle.kept_places.specs.Marks.{rank}
use Rattle.thumb_model.specs.Listing.{places_of, is_op_place}
use Rattle.thumb_model.specs.Replaced.{replaced_lines}
use Rattle.thumb_model.proofs.Lists.{get_drop}
use Rattle.std.specs.List.{list_all}
use Rattle.listing_parser.specs.Grammar.{most_lines}
use Rattle.listing_parser.specs.Parsing.{own_line, IsListing, text_of_lines}
use Rattle.listing_parser.specs.ReadAgain.{KeepsCode}
use Rattle.listing_parser.specs.Replacing.{names_no_label}
use Rattle.listing_parser.proofs.ReplacedLines.{replaced_reads_again}
use Rattle.padded_code.specs.Exchange.{exchanged, marks_after}
use Rattle.padded_code.specs.Windows.{AreRanked}
use Rattle.edited_listing.specs.declared.standing.Standing.{Standing}
use Rattle.edited_listing.specs.Changes.{home_at, giving_from}
use Rattle.edited_listing.specs.Items.{items_from}
use Rattle.edited_listing.specs.Places.{item_of}
use Rattle.edited_listing.specs.Counting.{one_if, item_labelled}
use Rattle.edited_listing.specs.Edited.{Edited, IsEdited, lines_now, marks, padded}
use Rattle.edited_listing.specs.Laws.{after_giving, IsWindowAt}
use Rattle.edited_listing.proofs.Kept.{item_at, words_stand, stays_edited, lines_replaced}
use Rattle.edited_listing.proofs.Padded.{exchange_places}
use Rattle.edited_listing.proofs.Free.{are_ops, window_free}
use Rattle.edited_listing.proofs.Counted.{lines_counted, labels_now}

pub edits_replace : (e : Edited) (p count : ℕ) (new : List Instr) (s : Standing) → IsEdited e → IsWindowAt e p count new s →
    IsEdited (after_giving e p count new s) × (lines_now (after_giving e p count new s) ≡ replaced_lines own_line (rank (marks e) p) count new (lines_now e))
edits_replace e p zero new s is w = absurd (let some = w.some in omega arith)
edits_replace e p (suc n) new s is w = (
  stays_edited own_line e is p n (home_at p s) new s w.stands w.kept refl w.few w.window,
  lines_replaced own_line e is p n (home_at p s) new s w.stands w.kept refl w.few w.window w.unlabelled,
)

pub edits_exchange : (e : Edited) (p count : ℕ) (new : List Instr) (s : Standing) (ps : List ℕ) → length ps ≡ count → AreRanked (marks e) (rank (marks e) p) ps →
    (marks (after_giving e p count new s) ≡ marks_after ps new (marks e)) × (padded (after_giving e p count new s) ≡ exchanged ps new (padded e))
edits_exchange e p count new s ps n a =
    let both = exchange_places ps new (rank (marks e) p) p (home_at p s) (places_of e.given) e.stands a refl in
    let same : giving_from p count new (home_at p s) e.stands ≡ giving_from p (length ps) new (home_at p s) e.stands = ap (λ c. giving_from p c new (home_at p s) e.stands) (sym n) in (
      ap (λ ss. marks (record { given = e.given; stands = ss })) same ∙ sym both.0,
      ap (λ ss. padded (record { given = e.given; stands = ss })) same ∙ ap (λ xs. record { places = xs; labels = (padded e).labels }) (sym both.1),
    )

pub edits_count : (e : Edited) (p count : ℕ) (new : List Instr) (s : Standing) → IsEdited e → IsWindowAt e p count new s →
    count + length (lines_now (after_giving e p count new s)) ≡ length (lines_now e) + length new + one_if (item_labelled 0 e.given (item_of p s))
edits_count e p zero new s is w = absurd (let some = w.some in omega arith)
edits_count e p (suc n) new s is w =
    let r : ℕ = rank (marks e) p in
    let lines = (edits_replace e p (suc n) new s is w).1 in
    let counted = lines_counted own_line n r new (lines_now e) (are_ops (suc n) (drop r (places_of (lines_now e))) (λ k h. ap is_op_place (get_drop r (places_of (lines_now e)) k (r + k) refl) ∙ w.window k h)) in
    let found = item_at p 0 e.stands s w.stands w.kept in
    let label = labels_now own_line e.given 0 n r (items_from 0 e.stands) (item_of (0 + p) s) is.sorted (words_stand e is) (window_free r n (lines_now e) w.window w.unlabelled) found in
    ap (λ ls. suc n + length ls) lines ∙ counted ∙ ap (λ b. length (lines_now e) + length new + one_if b) (label ∙ ap (λ j. item_labelled 0 e.given (item_of j s)) (let z : 0 + p ≡ p = omega arith in z))

pub edits_reads_again : (bytes : List ℕ) (e : Edited) (p count : ℕ) (new : List Instr) (s : Standing) → IsEdited e → IsWindowAt e p count new s → IsListing bytes (lines_now e) → list_all names_no_label new ≡ true →
    KeepsCode (lines_now e) (lines_now (after_giving e p count new s)) → length (lines_now (after_giving e p count new s)) ≤ most_lines →
    IsListing (text_of_lines (lines_now (after_giving e p count new s))) (lines_now (after_giving e p count new s))
edits_reads_again bytes e p count new s is w listing plain code few =
    replaced_reads_again bytes (lines_now e) (rank (marks e) p) count new (lines_now (after_giving e p count new s)) listing (record {
      are = (edits_replace e p count new s is w).1;
      some = w.some;
      window = w.window;
      plain = plain;
      kept = code;
      few = few;
    })
