-- The layout of lines in which a window gives way to fewer instructions.
use Rattle.std.proofs.Common.{◌≡◌, ℕ, zero, suc, ◌+◌, ◌-◌, ◌*◌, ◌^◌, ◌<◌, ◌≤◌, true, false, List, [], ◌∷◌, ◌++◌, length, Option, Some, refl, ap, arith, length-append}
use Rattle.std.specs.Prelude.{slice_get}
use Rattle.std.specs.List.{list_all}
use Rattle.thumb_instr.specs.declared.instr.Instr.{Instr}
use Rattle.thumb_instr.specs.Window.{is_in_window}
use Rattle.thumb_model.specs.Layout.{Layable}
use Rattle.thumb_model.specs.Listing.{Name, ListingLine, places_in, places_of}
use Rattle.thumb_model.specs.Replaced.{replaced_lines, IsWindow}
use Rattle.thumb_model.proofs.Lists.{length_map, present_at}
use Rattle.window_runs.specs.Rows.{rows_from}
use Rattle.window_runs.proofs.Joined.{window_fits}
use Rattle.window_runs.proofs.Lengths.{rows_length}
use Rattle.kept_layout.specs.declared.kept.KeptLayout.{KeptLayout}
use Rattle.kept_layout.specs.declared.block.NameLocation.{NameLocation}
use Rattle.kept_layout.specs.Blocks.{behind, end_from, lessen, footprint_of, footprints_of, total_places, AllReach, Footprint}
use Rattle.kept_layout.specs.Kept.{joined, AreCut, AreFootprintsOf, IsLaid, IsNear, Lays, StandsAt}
use Rattle.kept_layout.proofs.Cutting.{fits_end, window_gives_way, window_within, BeginsIn}
use Rattle.kept_layout.proofs.Reaching.{cut_reaches, reaches_cut}

-- ---- how many places there are ----

places_append : (xs ys : List ListingLine) → length (places_of (xs ++ ys)) ≡ length (places_of xs) + length (places_of ys)
places_append [] ys = omega arith
places_append (l ∷ ls) ys = omega (arith, length-append (places_in l.statement) (places_of (ls ++ ys)), length-append (places_in l.statement) (places_of ls), places_append ls ys)

total_is : (find : Name → Option NameLocation) (ps : List (List ListingLine)) (ss : List Footprint) → AreFootprintsOf find ps ss → total_places ss ≡ length (places_of (joined ps))
total_is find [] [] h = refl
total_is find [] (s ∷ ss) h = absurd h
total_is find (p ∷ ps) [] h = absurd h
total_is find (p ∷ ps) (s ∷ ss) h = omega (arith, places_append p (joined ps), h.0.places, total_is find ps ss h.1)

-- the place of a window is one of the lines' places
window_place : (lines : List ListingLine) (place : ℕ) (window : List Instr) → IsWindow lines place window → 0 < length window → place < length (places_of lines)
window_place lines place [] w some = absurd (omega arith)
window_place lines place (i ∷ is) w some = omega (arith, fits_end i is place (rows_from false lines) (window_fits lines place (i ∷ is) (omega arith) w), rows_length false lines)

-- ---- windows in the current block of a layout ----

-- a window that begins in the current block of the layout of the lines gives way to at most as many instructions
pub record GivesWay (k : KeptLayout) (lines : List ListingLine) (place : ℕ) (window new : List Instr) : Type 0 where
  pub lays : Lays k lines
  pub near : IsNear k place
  pub is_window : IsWindow lines place window
  pub some : 0 < length window
  pub fewer : length new ≤ length window
  pub in_window : list_all is_in_window new ≡ true

pub gives : {k : KeptLayout} {lines : List ListingLine} {place : ℕ} {window new : List Instr} → Lays k lines → IsNear k place → IsWindow lines place window → 0 < length window → length new ≤ length window → list_all is_in_window new ≡ true → GivesWay k lines place window new
gives lays near is_window some fewer in_window = record { lays = lays; near = near; is_window = is_window; some = some; fewer = fewer; in_window = in_window }

-- so it does for the lines and the place of `StandsAt`
pub gives_way : {k : KeptLayout} {window new : List Instr} (at : StandsAt k window) → 0 < length window → length new ≤ length window → list_all is_in_window new ≡ true → GivesWay k at.lines at.place window new
gives_way at some fewer in_window = gives at.lays at.near at.is_window some fewer in_window

-- the window begins in the current block
begins_here : (k : KeptLayout) (lines : List ListingLine) (place : ℕ) (window new : List Instr) (s : Footprint) → slice_get (footprints_of k.blocks.items) k.here ≡ Some s → GivesWay k lines place window new → BeginsIn lines (footprints_of k.blocks.items) k.here k.first place s window
begins_here k lines place window new s e g =
    let cut = g.lays.cut in
    let within : place < total_places (footprints_of k.blocks.items) = omega (arith, window_place lines place window g.is_window g.some, total_is _ cut.parts (footprints_of k.blocks.items) cut.footprints_are, ap (λ (ls : List ListingLine). length (places_of ls)) cut.is) in
    record { cut = cut; is_footprint = e; first_is = g.lays.laid.first; from = g.near.from; until = g.near.until within s e; is_window = g.is_window; some = g.some }

-- there is a current block
here_is : (k : KeptLayout) → IsLaid k → (s : Footprint) × (slice_get (footprints_of k.blocks.items) k.here ≡ Some s)
here_is k laid = let here = laid.here in present_at (footprints_of k.blocks.items) k.here (omega (arith, length_map footprint_of k.blocks.items))

-- blocks end no earlier than they begin
pub end_from_least : (at : ℕ) (ss : List Footprint) → at ≤ end_from at ss
end_from_least at [] = omega arith
end_from_least at (s ∷ ss) = let h = end_from_least (behind at s) ss in omega arith

bytes_before_end : (at : ℕ) (ss : List Footprint) (k : ℕ) (s : Footprint) → slice_get ss k ≡ Some s → s.bytes ≤ end_from at ss
bytes_before_end at [] k s e = absurd (cc)
bytes_before_end at (x ∷ xs) zero s e =
    let same : x ≡ s = cc in
    let bytes = ap (λ (y : Footprint). y.bytes) same in
    omega (arith, end_from_least (behind at x) xs)
bytes_before_end at (x ∷ xs) (suc k) s e = bytes_before_end (behind at x) xs k s e

-- the current block has the bytes and places that go
pub bytes_within : (k : KeptLayout) (lines : List ListingLine) (place : ℕ) (window new : List Instr) (s : Footprint) → slice_get (footprints_of k.blocks.items) k.here ≡ Some s → GivesWay k lines place window new → 2 * (length window - length new) ≤ s.bytes
bytes_within k lines place window new s e g = let r = (window_within lines (footprints_of k.blocks.items) k.here k.first place s window (begins_here k lines place window new s e g)).1 in omega arith

pub places_within : (k : KeptLayout) (lines : List ListingLine) (place : ℕ) (window new : List Instr) (s : Footprint) → slice_get (footprints_of k.blocks.items) k.here ≡ Some s → GivesWay k lines place window new → length window - length new ≤ s.places
places_within k lines place window new s e g = let r = (window_within lines (footprints_of k.blocks.items) k.here k.first place s window (begins_here k lines place window new s e g)).0 in omega arith

-- the bytes are few, as all lines lie in the Code region
pub bytes_few : (k : KeptLayout) (lines : List ListingLine) (place : ℕ) (window new : List Instr) → GivesWay k lines place window new → 2 * (length window - length new) ≤ 2 ^ 29
bytes_few k lines place window new g =
    let laid = g.lays.laid in
    let s = here_is k laid in
    let in_code = laid.in_code in
    omega (arith, bytes_within k lines place window new s.0 s.1 g, bytes_before_end k.base (footprints_of k.blocks.items) k.here s.0 s.1)

-- ---- the lines after the window gave way ----

-- the footprints of the blocks after that
abbrev pub footprints_after : KeptLayout → List Instr → List Instr → List Footprint
footprints_after k window new = lessen k.here (2 * (length window - length new)) (length window - length new) (footprints_of k.blocks.items)

pub cut_after : (write : Instr → List ℕ) (k : KeptLayout) (lines : List ListingLine) (place : ℕ) (window new : List Instr) → GivesWay k lines place window new → AreCut (replaced_lines write place (length window) new lines) (footprints_after k window new)
cut_after write k lines place window new g =
    let s = here_is k g.lays.laid in
    window_gives_way write lines (footprints_of k.blocks.items) k.here k.first place s.0 window new g.fewer g.in_window (begins_here k lines place window new s.0 s.1 g)

-- the lines can be laid out where all that the blocks then mention is within reach
pub reach_after : (write : Instr → List ℕ) (k : KeptLayout) (lines : List ListingLine) (place : ℕ) (window new : List Instr) → GivesWay k lines place window new → Layable k.base (replaced_lines write place (length window) new lines) → AllReach k.base (footprints_after k window new)
reach_after write k lines place window new g layable = cut_reaches k.base (replaced_lines write place (length window) new lines) (footprints_after k window new) (cut_after write k lines place window new g) layable

pub layable_after : (write : Instr → List ℕ) (k : KeptLayout) (lines : List ListingLine) (place : ℕ) (window new : List Instr) → GivesWay k lines place window new → AllReach k.base (footprints_after k window new) → Layable k.base (replaced_lines write place (length window) new lines)
layable_after write k lines place window new g reach = reaches_cut k.base (replaced_lines write place (length window) new lines) (footprints_after k window new) (cut_after write k lines place window new g) reach
