-- A window of kept places as straight code: the places between them that are gone belong to it.
use Rattle.std.specs.Prelude.{◌≡◌, ℕ, suc, ◌+◌, ◌-◌, ◌≤◌, Bool, true, List, [], ◌∷◌, ◌++◌, length, map, Some, slice_get}
use Rattle.std.specs.List.{list_all}
use Rattle.thumb_instr.specs.declared.instr.Instr.{Instr}
use Rattle.thumb_model.specs.Listing.{plain, Code}
use Rattle.shrinking_sets.specs.Straight.{nop, nops, is_straight, reads_first, writes_in, IsExchange}
use Rattle.padded_code.specs.Padding.{IsPadded}
use Rattle.padded_code.specs.Exchange.{exchanged}
use Rattle.padded_code.specs.Windows.{AreRanked}

-- the first of some instructions, or a nop, and the others
abbrev pub first_of : List Instr → Instr
first_of [] = nop
first_of (i ∷ is) = i

abbrev pub others_of : List Instr → List Instr
others_of [] = []
others_of (i ∷ is) = is

-- the instructions at the kept places ps, as they stand from a place on: with a nop at each place up to the last of ps that is gone or gets none of them
abbrev pub spread : ℕ → List ℕ → List Instr → List Instr
spread from [] is = []
spread from (p ∷ ps) is = nops (p - from) ++ (first_of is ∷ spread (suc p) ps (others_of is))

-- the last of some places
abbrev pub last_of : ℕ → List ℕ → ℕ
last_of p [] = p
last_of p (q ∷ ps) = last_of q ps

-- a window of kept places that gives way to no more instructions is an exchange of straight code from its first place to its last
abbrev pub ExchangeIsStraight : Type 0
ExchangeIsStraight =
    (gone : List Bool) (padded code : Code) → IsPadded gone padded code → length gone ≡ length padded.places → (r p : ℕ) (ps : List ℕ) (window is : List Instr) → AreRanked gone r (p ∷ ps) →
    map (slice_get padded.places) (p ∷ ps) ≡ map Some (map plain window) → length is ≤ length (p ∷ ps) → list_all is_straight window ≡ true → list_all is_straight is ≡ true →
    IsExchange padded (exchanged (p ∷ ps) is padded) p (spread p (p ∷ ps) window) (spread p (p ∷ ps) is)

-- such straight code ends right behind the window's last place
abbrev pub SpreadsEnd : Type 0
SpreadsEnd = (gone : List Bool) (r p : ℕ) (ps : List ℕ) (is : List Instr) → AreRanked gone r (p ∷ ps) → p + length (spread p (p ∷ ps) is) ≡ suc (last_of p ps)

-- and reads and writes what the instructions do
abbrev pub SpreadsReadAlike : Type 0
SpreadsReadAlike = (from : ℕ) (ps : List ℕ) (is : List Instr) → length is ≤ length ps → (x : ℕ) → (reads_first (spread from ps is) x ≡ reads_first is x) × (writes_in (spread from ps is) x ≡ writes_in is x)
