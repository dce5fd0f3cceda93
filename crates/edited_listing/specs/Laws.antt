-- What holds of a listing that is being changed.
use Rattle.std.specs.Prelude.{◌≡◌, ℕ, ◌+◌, ◌<◌, ◌≤◌, true, false, List, length, Some, slice_get, ◌⊎◌}
use Rattle.thumb_instr.specs.declared.instr.Instr.{Instr}
use Rattle.kept_places.specs.Marks.{rank}
use Rattle.thumb_model.specs.Listing.{ListingLine, Label, places_of, labels_from, is_op_place}
use Rattle.thumb_model.specs.Replaced.{replaced_lines}
use Rattle.std.specs.List.{list_all}
use Rattle.listing_parser.specs.Grammar.{most_lines}
use Rattle.listing_parser.specs.Parsing.{own_line, IsListing, text_of_lines}
use Rattle.listing_parser.specs.ReadAgain.{KeepsCode}
use Rattle.listing_parser.specs.Replacing.{names_no_label}
use Rattle.padded_code.specs.Padding.{kept}
use Rattle.padded_code.specs.Exchange.{exchanged, marks_after}
use Rattle.padded_code.specs.Windows.{AreRanked}
use Rattle.edited_listing.specs.declared.standing.Standing.{Standing}
use Rattle.edited_listing.specs.Changes.{is_none, home_at, giving_from}
use Rattle.edited_listing.specs.Counting.{one_if, item_labelled}
use Rattle.edited_listing.specs.Places.{item_of}
use Rattle.edited_listing.specs.Edited.{Edited, IsEdited, lines_now, marks, padded, unchanged}

-- a listing of which nothing is changed has its own lines
abbrev pub UnchangedIsEdited : Type 0
UnchangedIsEdited = (lines : List ListingLine) → IsEdited (unchanged lines) × (lines_now (unchanged lines) ≡ lines)

-- the listing when `count` of its kept places from place p on, where s stands, give way
abbrev pub after_giving : Edited → ℕ → ℕ → List Instr → Standing → Edited
after_giving e p count new s = record { given = e.given; stands = giving_from p count new (home_at p s) e.stands }

-- a window of instructions at a kept place p, where s stands: none but the first has a label, and no more instructions take its place
pub record IsWindowAt (e : Edited) (p count : ℕ) (new : List Instr) (s : Standing) : Type 0 where
  pub stands : slice_get e.stands p ≡ Some s
  pub kept : is_none s ≡ false
  pub some : 1 ≤ count
  pub few : length new ≤ count
  pub window : (k : ℕ) → k < count → is_op_place (slice_get (places_of (lines_now e)) (rank (marks e) p + k)) ≡ true
  pub unlabelled : (k : ℕ) (l : Label) → slice_get (labels_from 0 (lines_now e)) k ≡ Some l → (l.place ≤ rank (marks e) p) ⊎ (rank (marks e) p + count ≤ l.place)

-- where a window gives way, it is replaced in the lines now
abbrev pub EditsReplaceLines : Type 0
EditsReplaceLines =
    (e : Edited) (p count : ℕ) (new : List Instr) (s : Standing) → IsEdited e → IsWindowAt e p count new s →
    IsEdited (after_giving e p count new s) × (lines_now (after_giving e p count new s) ≡ replaced_lines own_line (rank (marks e) p) count new (lines_now e))

-- and its places are exchanged in the padded code
abbrev pub EditsExchangePlaces : Type 0
EditsExchangePlaces =
    (e : Edited) (p count : ℕ) (new : List Instr) (s : Standing) (ps : List ℕ) → length ps ≡ count → AreRanked (marks e) (rank (marks e) p) ps →
    (marks (after_giving e p count new s) ≡ marks_after ps new (marks e)) × (padded (after_giving e p count new s) ≡ exchanged ps new (padded e))

-- the places of the lines now are the kept ones of the padded code
abbrev pub PlacesAreKept : Type 0
PlacesAreKept = (e : Edited) → IsEdited e → places_of (lines_now e) ≡ kept (marks e) (padded e).places

-- how many lines there are after a window gave way: one more where the first instruction's line, as it was given, has labels
abbrev pub EditsCountLines : Type 0
EditsCountLines =
    (e : Edited) (p count : ℕ) (new : List Instr) (s : Standing) → IsEdited e → IsWindowAt e p count new s →
    count + length (lines_now (after_giving e p count new s)) ≡ length (lines_now e) + length new + one_if (item_labelled 0 e.given (item_of p s))

-- after a window gave way the text of the lines is read as these lines, if it was before, the new instructions name no label, each code label is still one,
-- and there are no more lines than a listing may have
abbrev pub EditsReadAgain : Type 0
EditsReadAgain =
    (bytes : List ℕ) (e : Edited) (p count : ℕ) (new : List Instr) (s : Standing) → IsEdited e → IsWindowAt e p count new s → IsListing bytes (lines_now e) → list_all names_no_label new ≡ true →
    KeepsCode (lines_now e) (lines_now (after_giving e p count new s)) → length (lines_now (after_giving e p count new s)) ≤ most_lines →
    IsListing (text_of_lines (lines_now (after_giving e p count new s))) (lines_now (after_giving e p count new s))
