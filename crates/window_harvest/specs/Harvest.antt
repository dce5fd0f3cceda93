-- The windows and masks that a listing gives to learn from.
use Rattle.std.specs.Prelude.{◌≡◌, ℕ, ◌+◌, ◌-◌, ◌≤◌, true, List, [], ◌∷◌, ◌++◌, length, map, Option, Contains, ◌↔◌}
use Rattle.std.specs.List.{flat_map}
use Rattle.thumb_instr.specs.declared.instr.Instr.{Instr}
use Rattle.thumb_instr.specs.declared.items.Mask.{Mask}
use Rattle.thumb_instr.specs.Items.{has}
use Rattle.thumb_instr.specs.Window.{Low}
use Rattle.thumb_model.specs.Listing.{ListingLine, code_of, places_of}
use Rattle.thumb_model.specs.Flow.{LiveAfter}
use Rattle.thumb_model.specs.Effect.{register_count}
use Rattle.seq_enum.specs.Alphabet.{numbers_from, IsOver}
use Rattle.rule_table.specs.Canonical.{IsRenamable, IsCanonical}
use Rattle.thumb_model.specs.Replaced.{IsWindow}

-- a canonical window, and the items that may be live after it, as the bits of their numbers
pub record Pair : Type 0 where
  pub seq : List Instr
  pub mask : ℕ

abbrev pub pair_of : List Instr × Mask → Pair
pair_of p = record { seq = p.0; mask = p.1.items.bits }

-- how many registers and instructions a window has at most, and the numbers that it may have
pub record Limits : Type 0 where
  pub regs : ℕ
  pub left : ℕ
  pub pool : List ℕ

-- where a window may stand: from a place on, `count` instructions
pub record WindowSpan : Type 0 where
  pub place : ℕ
  pub count : ℕ

-- the instructions are a window there, after which these items are live
pub record StandsThere (lines : List ListingLine) (spot : WindowSpan) (window : List Instr) (items : ℕ) : Type 0 where
  pub as_many : length window ≡ spot.count
  pub is_window : IsWindow lines spot.place window
  pub live : (x : ℕ) → (has items x ≡ true) ↔ LiveAfter (code_of lines) (spot.place + spot.count - 1) x

-- the pair is that of the window there: its canonical form and the items that are live after it by their new names, where it names few registers and is over their alphabet
pub record IsPairAt (limits : Limits) (lines : List ListingLine) (spot : WindowSpan) (pair : Pair) : Type 0 where
  pub window : List Instr
  pub items : ℕ
  pub stands : StandsThere lines spot window items
  pub renamable : IsRenamable window
  pub registers : List (Option Low)
  pub canonical : IsCanonical window items pair.seq registers pair.mask
  pub few : register_count pair.seq ≤ limits.regs
  pub over : IsOver (register_count pair.seq) limits.pool pair.seq

-- the pairs of spots, in the order of these; a spot may have none
pub data ArePairs (limits : Limits) (lines : List ListingLine) : List WindowSpan → List Pair → Type 0 where
  none : ArePairs limits lines [] []
  passed : (spot : WindowSpan) (spots : List WindowSpan) (pairs : List Pair) → ((pair : Pair) → IsPairAt limits lines spot pair → ⊥) → ArePairs limits lines spots pairs → ArePairs limits lines (spot ∷ spots) pairs
  given : (spot : WindowSpan) (spots : List WindowSpan) (pair : Pair) (pairs : List Pair) → IsPairAt limits lines spot pair → ArePairs limits lines spots pairs → ArePairs limits lines (spot ∷ spots) (pair ∷ pairs)

-- those seen and each other pair of a list once, in order of first appearance
pub data AreFirsts : List Pair → List Pair → List Pair → Type 0 where
  ended : (seen : List Pair) → AreFirsts seen [] seen
  known : (seen : List Pair) (pair : Pair) (pairs firsts : List Pair) → Contains seen pair → AreFirsts seen pairs firsts → AreFirsts seen (pair ∷ pairs) firsts
  new : (seen : List Pair) (pair : Pair) (pairs firsts : List Pair) → (Contains seen pair → ⊥) → AreFirsts (seen ++ pair ∷ []) pairs firsts → AreFirsts seen (pair ∷ pairs) firsts

-- all spots of 1 to `left` instructions, by place, then by length
abbrev pub spot_of : ℕ → ℕ → WindowSpan
spot_of place n = record { place = place; count = n }

abbrev pub spots_at : ℕ → ℕ → List WindowSpan
spots_at left place = map (spot_of place) (numbers_from 1 left)

abbrev pub spots : ℕ → ℕ → List WindowSpan
spots left count = flat_map (spots_at left) (numbers_from 0 count)

-- those seen and the pairs of the spots, each once, in order of first appearance
pub record AreAdded (limits : Limits) (lines : List ListingLine) (spots : List WindowSpan) (seen firsts : List Pair) : Type 0 where
  pub pairs : List Pair
  pub are : ArePairs limits lines spots pairs
  pub once : AreFirsts seen pairs firsts

-- the distinct pairs of a listing's windows, in order of first appearance by place, then by length
abbrev pub AreHarvest : Limits → List ListingLine → List Pair → Type 0
AreHarvest limits lines pairs = AreAdded limits lines (spots limits.left (length (places_of lines))) [] pairs
