-- A code whose places never move, with a nop where a place is gone, and the code of the places that are kept.
use Rattle.std.specs.Prelude.{◌≡◌, ◌↔◌, ℕ, Bool, true, false, List, [], ◌∷◌, map, Some, slice_get}
use Rattle.std.specs.Option.{option_map}
use Rattle.kept_places.specs.Marks.{is_gone, rank}
use Rattle.thumb_instr.specs.declared.instr.Instr.TheVariants as instr
use Rattle.thumb_instr.specs.declared.operation.HintOperation.TheVariants as hint
use Rattle.thumb_model.specs.Listing.{Name, Place, plain, Label, Code, is_code, place_of, label_places, return_places}
use Rattle.thumb_model.specs.Flow.{Reads, LiveAfter}

-- what stands where a place is gone
abbrev pub nop : Place
nop = plain (instr.Hint hint.Nop)

-- what stands at the kept places, in order
abbrev pub kept : List Bool → List Place → List Place
kept [] ps = ps
kept (g ∷ gs) [] = []
kept (true ∷ gs) (p ∷ ps) = kept gs ps
kept (false ∷ gs) (p ∷ ps) = p ∷ kept gs ps

-- a label at the number of kept places before its place
abbrev pub ranked : List Bool → Label → Label
ranked gone l = record { name = l.name; place = rank gone l.place }

-- the code is the padded one without the places that are gone
pub record IsPadded (gone : List Bool) (padded code : Code) : Type 0 where
  pub nops : (p : ℕ) → is_gone gone p ≡ true → slice_get padded.places p ≡ Some nop
  pub places : code.places ≡ kept gone padded.places
  pub labels : code.labels ≡ map (ranked gone) padded.labels
  -- a label at a place that is gone is still code
  pub still_code : (k : ℕ) (l : Label) → slice_get padded.labels k ≡ Some l → is_gone gone l.place ≡ true → is_code code.places (ranked gone l) ≡ true

-- what is read from a place is what is read from its rank
abbrev pub PaddingKeepsReads : Type 0
PaddingKeepsReads = (gone : List Bool) (padded code : Code) → IsPadded gone padded code → (x p : ℕ) → Reads padded x p ↔ Reads code x (rank gone p)

-- what is live after a kept place is what is live after its rank
abbrev pub PaddingKeepsLive : Type 0
PaddingKeepsLive = (gone : List Bool) (padded code : Code) → IsPadded gone padded code → (p x : ℕ) → is_gone gone p ≡ false → LiveAfter padded p x ↔ LiveAfter code (rank gone p) x

-- a name leads to the rank of the place that it leads to in the padded code
abbrev pub PaddingKeepsNames : Type 0
PaddingKeepsNames = (gone : List Bool) (padded code : Code) → IsPadded gone padded code → (name : Name) → place_of code name ≡ option_map (rank gone) (place_of padded name)

-- the code points are the ranks of the padded code's, in order
abbrev pub PaddingKeepsPoints : Type 0
PaddingKeepsPoints = (gone : List Bool) (padded code : Code) → IsPadded gone padded code →
    (label_places code.places code.labels ≡ map (rank gone) (label_places padded.places padded.labels)) × (return_places 0 code.places ≡ map (rank gone) (return_places 0 padded.places))
