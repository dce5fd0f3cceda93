-- Where the lines and places of a listing begin in its widest layout, and what a branch surely reaches there.
use Rattle.std.specs.Prelude.{◌≡◌, ℕ, true, List, [], ◌∷◌, ◌++◌, length, replicate, Some, slice_get}
use Rattle.thumb_instr.specs.declared.instr.Instr.{Instr}
use Rattle.thumb_model.specs.Listing.{Name, ListingLine, places_in, places_of}
use Rattle.steady_layout.specs.declared.starts.Start.{Start}
use Rattle.steady_layout.specs.Starts.{starts_from, AreStarts}
use Rattle.steady_layout.specs.Steady.{first, labels_in, sets_in, steady_aim}
use Rattle.flow_tidy.specs.declared.widest_layout.WidestLayout.{WidestLayout}
use Rattle.flow_tidy.specs.Halves.{wides_before}

-- for each place where its line begins, by where each line does
abbrev pub places_begin : List Start → List ListingLine → List Start
places_begin [] ls = []
places_begin (s ∷ ss) [] = []
places_begin (s ∷ ss) (l ∷ ls) = replicate (length (places_in l.statement)) s ++ places_begin ss ls

-- the widest layout of a listing: where its lines and places begin, and how many wide places stand before each place
pub record IsWidestLayout (ls : List ListingLine) (g : WidestLayout) : Type 0 where
  pub lines : AreStarts g.base ls g.lines.items
  pub places : g.places.items ≡ places_begin g.lines.items ls
  pub wide : g.wide.items ≡ wides_before 0 (places_of ls)

-- an instruction at a place stays within reach of a name that it mentions, whichever instructions go
pub record IsSteadyTo (base : ℕ) (ls : List ListingLine) (p : ℕ) (i : Instr) (name : Name) : Type 0 where
  pub start : Start
  pub begins : slice_get (places_begin (starts_from (first base) ls) ls) p ≡ Some start
  pub steady : steady_aim base start i (labels_in base ls name) (sets_in ls name) 0 ≡ true
