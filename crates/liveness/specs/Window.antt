-- Instructions that take the places of a window.
use Rattle.std.specs.Prelude.{◌≡◌, ℕ, zero, suc, ◌<◌, ◌≤◌, List, [], ◌∷◌, length, get_or, Option, Some, None, slice_get}
use Rattle.thumb_instr.specs.declared.instr.Instr.{Instr}
use Rattle.thumb_model.specs.Listing.{Code}
use Rattle.thumb_model.specs.Flow.{ways_of}
use Rattle.code_flow.specs.declared.way.Ways.{Ways}
use Rattle.code_flow.specs.Flow.{AreWays, way_list}
use Rattle.shrinking_sets.specs.Straight.{nop, IsExchange, IsUnlabelled}
use Rattle.padded_code.specs.Spread.{spread}

-- the instruction of this number, or the nop that stands where a place is gone
abbrev pub nth_or_nop : List Instr → ℕ → Instr
nth_or_nop [] k = nop
nth_or_nop (i ∷ is) zero = i
nth_or_nop (i ∷ is) (suc k) = nth_or_nop is k

-- the places are in ascending order, and none is below `from`
abbrev pub AreAscending : ℕ → List ℕ → Type 0
AreAscending from [] = Unit {0}
AreAscending from (p ∷ ps) = (from ≤ p) × AreAscending (suc p) ps

-- the ways of the instructions stand at the places
abbrev pub ArePut : List ℕ → List Instr → List (Option Ways) → Type 0
ArePut ps is all = (k : ℕ) (ws : Option Ways) → k < length ps → slice_get all (get_or ps k 0) ≡ Some ws → AreWays (get_or ps k 0) (ways_of None (nth_or_nop is k)) (way_list ws)

-- in a code whose places stay, the instructions of a window at these places give way to new ones at the first of them: the places between them, and those left over, are gone
pub record IsWindowExchange (code new : Code) (ps : List ℕ) (window is : List Instr) : Type 0 where
  pub as_many : length window ≡ length ps
  pub few : length is ≤ length ps
  pub exchange : IsExchange code new (get_or ps 0 0) (spread (get_or ps 0 0) ps window) (spread (get_or ps 0 0) ps is)
  pub unlabelled : IsUnlabelled code (get_or ps 0 0) (length (spread (get_or ps 0 0) ps window))
