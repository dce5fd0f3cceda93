-- Windows as lists of places that are kept, and what is read through places that are gone.
use Rattle.std.specs.Prelude.{◌≡◌, ◌↔◌, ℕ, suc, ◌+◌, ◌<◌, ◌≤◌, Bool, true, false, List, [], ◌∷◌, length, take, Some, slice_get, map, drop}
use Rattle.kept_places.specs.Marks.{is_gone, rank}
use Rattle.thumb_instr.specs.declared.instr.Instr.{Instr}
use Rattle.thumb_instr.specs.Window.{is_in_window}
use Rattle.thumb_model.specs.Listing.{plain, Code}
use Rattle.thumb_model.specs.Flow.{Reads, LiveAfter}
use Rattle.padded_code.specs.Padding.{nop, IsPadded}

-- these are the kept places of the ranks from r on
abbrev pub AreRanked : List Bool → ℕ → List ℕ → Type 0
AreRanked gone r [] = Unit {0}
AreRanked gone r (p ∷ ps) = (p < length gone) × (is_gone gone p ≡ false) × (rank gone p ≡ r) × AreRanked gone (suc r) ps

-- each place of the code is the rank of a kept one
abbrev pub RanksAreTaken : Type 0
RanksAreTaken = (gone : List Bool) (padded code : Code) → IsPadded gone padded code → (r : ℕ) → r < length code.places → (p : ℕ) × (p < length padded.places) × (is_gone gone p ≡ false) × (rank gone p ≡ r)

-- so places of the code that follow one another are the ranks of kept ones
abbrev pub WindowsAreKept : Type 0
WindowsAreKept = (gone : List Bool) (padded code : Code) → IsPadded gone padded code → length gone ≡ length padded.places → (n r : ℕ) → r + n ≤ length code.places → (ps : List ℕ) × (length ps ≡ n) × AreRanked gone r ps

-- what is read from a place where a nop stands is what is read from the place behind it
abbrev pub NopsReadOn : Type 0
NopsReadOn = (code : Code) (p : ℕ) → slice_get code.places p ≡ Some nop → (x : ℕ) → Reads code x p ↔ Reads code x (suc p)

-- what is read from the first of n nops is what is read from the place behind the last
abbrev pub NodesReadAlike : Type 0
NodesReadAlike = (code : Code) (n p : ℕ) → ((k : ℕ) → k < n → slice_get code.places (p + k) ≡ Some nop) → (x : ℕ) → Reads code x p ↔ Reads code x (p + n)

-- what stands at places of the code stands at the kept places of these ranks in the padded code
abbrev pub WindowsStandAlike : Type 0
WindowsStandAlike = (gone : List Bool) (padded code : Code) → IsPadded gone padded code → length gone ≡ length padded.places → (r : ℕ) (ps : List ℕ) → AreRanked gone r ps → map Some (take (length ps) (drop r code.places)) ≡ map (slice_get padded.places) ps

-- what is live after a kept window instruction is what is read from the place behind it in the padded code
abbrev pub LiveIsReadBehind : Type 0
LiveIsReadBehind =
    (gone : List Bool) (padded code : Code) → IsPadded gone padded code → (p : ℕ) (i : Instr) → is_gone gone p ≡ false → slice_get padded.places p ≡ Some (plain i) → is_in_window i ≡ true →
    (x : ℕ) → LiveAfter code (rank gone p) x ↔ Reads padded x (suc p)
