-- A layout in which nothing moves, since a window gives way to as many instructions.
use Rattle.std.proofs.Common.{◌≡◌, ℕ, zero, suc, ◌-◌, ◌*◌, ◌<◌, true, false, List, [], ◌∷◌, length, Option, Some, None, refl, ap, subst, arith}
use Rattle.std.specs.Option.{IfSome}
use Rattle.std.specs.Prelude.{is_some, not}
use Rattle.std.specs.List.{list_all}
use Rattle.thumb_instr.specs.declared.instr.Instr.{Instr}
use Rattle.thumb_instr.specs.Window.{is_in_window}
use Rattle.thumb_model.specs.Layout.{Layable}
use Rattle.thumb_model.specs.Listing.{ListingLine}
use Rattle.thumb_model.specs.Replaced.{replaced_lines, IsWindow}
use Rattle.listing_parser.specs.Parsing.{own_line}
use Rattle.kept_layout.specs.declared.kept.KeptLayout.{KeptLayout}
use Rattle.kept_layout.specs.Blocks.{lessen, footprints_of, Footprint}
use Rattle.kept_layout.specs.Kept.{AreCut, IsNear, Lays}
use Rattle.kept_layout.proofs.Giving.{cut_after, gives}
use Rattle.kept_layout.proofs.Reaching.{reaches_cut}
use Rattle.window_rewrite.specs.declared.known_layout.KnownLayout.{KnownLayout}
use Rattle.window_rewrite.specs.Layouts.{is_steady, HasLayout, StandsNear}

-- a block that loses 0 bytes and 0 places is the same
none_less : (s : Footprint) → (let t : Footprint = record { head = s.head; bytes = s.bytes - 0; places = s.places - 0 } in t) ≡ s
none_less s =
    let bytes : s.bytes - 0 ≡ s.bytes = omega arith in
    let places : s.places - 0 ≡ s.places = omega arith in
    λ i. record { head = s.head; bytes = bytes i; places = places i }

lessened_none : (k : ℕ) (footprints : List Footprint) → lessen k 0 0 footprints ≡ footprints
lessened_none k [] = refl
lessened_none zero (s ∷ ss) = ap (λ x. x ∷ ss) (none_less s)
lessened_none (suc k) (s ∷ ss) = ap (λ xs. s ∷ xs) (lessened_none k ss)

-- a layout is still that of the lines
pub still_lays : (k : KeptLayout) (lines : List ListingLine) (place : ℕ) (window new : List Instr) → Lays k lines → IsNear k place → IsWindow lines place window → 0 < length window → length new ≡ length window → list_all is_in_window new ≡ true
    → Lays k (replaced_lines own_line place (length window) new lines)
still_lays k lines place window new lays near w some e in_window =
    let footprints : List Footprint = footprints_of k.blocks.items in
    let left : List ListingLine = replaced_lines own_line place (length window) new lines in
    let none : length window - length new ≡ 0 = omega arith in
    let cut : AreCut left (lessen k.here (2 * (length window - length new)) (length window - length new) footprints) = cut_after own_line k lines place window new (gives lays near w some (omega arith) in_window) in
    let same : AreCut left (lessen k.here 0 0 footprints) = subst (λ n. AreCut left (lessen k.here (2 * n) n footprints)) none cut in
    record { laid = lays.laid; cut = subst (AreCut left) (lessened_none k.here footprints) same }

-- and so is one that is kept
pub unmoved : (g : KnownLayout) (base : ℕ) (lines : List ListingLine) (place : ℕ) (window new : List Instr) → HasLayout base g lines → StandsNear g place → IsWindow lines place window → 0 < length window → length new ≡ length window → list_all is_in_window new ≡ true
    → HasLayout base g (replaced_lines own_line place (length window) new lines)
unmoved g base lines place window new has near w some e in_window = by g.kept has near
  where
    by : (o : Option KeptLayout) → IfSome o (λ k. (k.base ≡ base) × Lays k lines) → IfSome o (λ k. IsNear k place) → IfSome o (λ k. (k.base ≡ base) × Lays k (replaced_lines own_line place (length window) new lines))
    by None h n = tt
    by (Some k) h n = (h.0, still_lays k lines place window new h.1 n w some e in_window)

-- lines that have a layout can be laid out
pub lays_layable : (k : KeptLayout) (lines : List ListingLine) → Lays k lines → Layable k.base lines
lays_layable k lines lays = reaches_cut k.base lines (footprints_of k.blocks.items) lays.cut lays.laid.reach

-- so they can be where one is kept
pub unmoved_layable : (g : KnownLayout) (base : ℕ) (lines : List ListingLine) (place : ℕ) (window new : List Instr) → is_steady g ≡ false → HasLayout base g lines → StandsNear g place → IsWindow lines place window → 0 < length window → length new ≡ length window
    → list_all is_in_window new ≡ true → Layable base (replaced_lines own_line place (length window) new lines)
unmoved_layable g base lines place window new steady has near w some e in_window = by g.kept (unmoved g base lines place window new has near w some e in_window) steady
  where
    left : List ListingLine
    left = replaced_lines own_line place (length window) new lines

    by : (o : Option KeptLayout) → IfSome o (λ k. (k.base ≡ base) × Lays k left) → not (is_some o) ≡ false → Layable base left
    by None h s = absurd (cc)
    by (Some k) h s = subst (λ b. Layable b left) h.0 (lays_layable k left h.1)
