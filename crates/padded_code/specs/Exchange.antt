-- Instructions that give way to others in a code whose places stay: the new ones take the first places, and the other places are gone.
use Rattle.std.specs.Prelude.{◌≡◌, ℕ, suc, ◌+◌, ◌-◌, ◌<◌, ◌≤◌, Bool, true, false, List, [], ◌∷◌, length, Some, slice_get, slice_set, ◌⊎◌}
use Rattle.thumb_instr.specs.declared.instr.Instr.{Instr}
use Rattle.thumb_model.specs.Listing.{Place, plain, Label, Code, is_op_place, is_code}
use Rattle.thumb_model.specs.Replaced.{move_label, replaced}
use Rattle.kept_places.specs.Marks.{is_gone, rank}
use Rattle.padded_code.specs.Padding.{nop, IsPadded}

-- which places are gone where instructions are put at these places: also those of these that get none
abbrev pub marks_after : List ℕ → List Instr → List Bool → List Bool
marks_after [] is gone = gone
marks_after (p ∷ ps) [] gone = marks_after ps [] (slice_set gone p true)
marks_after (p ∷ ps) (i ∷ is) gone = marks_after ps is gone

-- what stands at all places then: a nop at those of these that get no instruction
abbrev pub places_after : List ℕ → List Instr → List Place → List Place
places_after [] is places = places
places_after (p ∷ ps) [] places = places_after ps [] (slice_set places p nop)
places_after (p ∷ ps) (i ∷ is) places = places_after ps is (slice_set places p (plain i))

abbrev pub exchanged : List ℕ → List Instr → Code → Code
exchanged ps is code = record { places = places_after ps is code.places; labels = code.labels }

-- these are the kept places of the ranks from r on, and instructions stand there
abbrev pub AreKeptFrom : List Bool → List Place → ℕ → List ℕ → Type 0
AreKeptFrom gone places r [] = Unit {0}
AreKeptFrom gone places r (p ∷ ps) = (p < length gone) × (is_gone gone p ≡ false) × (rank gone p ≡ r) × (is_op_place (slice_get places p) ≡ true) × AreKeptFrom gone places (suc r) ps

-- what is asked of a window of kept places, from the rank r on, that gives way to no more instructions
pub record GivesWay (gone : List Bool) (padded code : Code) (r : ℕ) (ps : List ℕ) (is : List Instr) : Type 0 where
  pub kept : AreKeptFrom gone padded.places r ps
  pub no_longer : length is ≤ length ps
  pub unlabelled : (k : ℕ) (l : Label) → slice_get code.labels k ≡ Some l → (l.place ≤ r) ⊎ (r + length ps ≤ l.place)
  pub labels_stay : (k : ℕ) (l : Label) → slice_get code.labels k ≡ Some l → is_code code.places l ≡ true → is_code (replaced code r (length ps) is).places (move_label r (length ps - length is) l) ≡ true

-- instructions that give way in the code do so in the padded one
abbrev pub ExchangeStaysPadded : Type 0
ExchangeStaysPadded = (gone : List Bool) (padded code : Code) → IsPadded gone padded code → (r : ℕ) (ps : List ℕ) (is : List Instr) → GivesWay gone padded code r ps is → IsPadded (marks_after ps is gone) (exchanged ps is padded) (replaced code r (length ps) is)

-- the code with something else at place p
abbrev pub put_at : ℕ → Place → Code → Code
put_at p y code = record { places = slice_set code.places p y; labels = code.labels }

-- another instruction that is put at a kept place, whatever it is and mentions, stands at that place's rank in the code that is left
abbrev pub PutStaysPadded : Type 0
PutStaysPadded = (gone : List Bool) (padded code : Code) → IsPadded gone padded code → (p : ℕ) (y : Place) → is_gone gone p ≡ false → is_op_place (Some y) ≡ true → IsPadded gone (put_at p y padded) (put_at (rank gone p) y code)

-- a code of which nothing is gone is its own padded code
abbrev pub WholeIsPadded : Type 0
WholeIsPadded = (gone : List Bool) (code : Code) → ((p : ℕ) → is_gone gone p ≡ false) → IsPadded gone code code
