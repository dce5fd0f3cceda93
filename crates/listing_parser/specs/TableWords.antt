-- The content of a listing's tables: where each place stands, how many places precede a line, and how many data words follow from it on.
use Rattle.std.specs.Prelude.{ℕ, ◌+◌, List, [], ◌∷◌, ◌++◌, length, Bool, Option, Some, None, if◌then◌else◌}
use Rattle.std.specs.Str.{bytes_eq}
use Rattle.std.specs.declared.alloc.Global.{Global}
use Rattle.std.specs.declared.vec.Vec.{Vec}
use Rattle.thumb_model.specs.Listing.{Name, Statement, Nothing, Instruction, Words, Aligns, Sets, ListingLine, Place, places_in}
use Rattle.thumb_model.specs.Layout.{is_among}
use Rattle.listing_parser.specs.declared.index.Spot.{Spot}
use Rattle.listing_parser.specs.declared.index.Passed.{Passed}

-- for each place, the line where it stands and which of that line's places it is
abbrev pub spots_at : ℕ → ℕ → List Place → List Spot
spots_at line item [] = []
spots_at line item (x ∷ xs) = record { line = line; item = item } ∷ spots_at line (item + 1) xs

abbrev pub spots_from : ℕ → List ListingLine → List Spot
spots_from n [] = []
spots_from n (l ∷ ls) = spots_at n 0 (places_in l.statement) ++ spots_from (n + 1) ls

-- for each line, how many places precede it
abbrev pub passed_from : ℕ → List ListingLine → List Passed
passed_from places [] = []
passed_from places (l ∷ ls) = record { places = places } ∷ passed_from (places + length (places_in l.statement)) ls

-- for each line, how many data words follow from it on, up to the next instruction or alignment line
abbrev pub words_on : Statement → ℕ → ℕ
words_on Nothing behind = behind
words_on (Instruction i mention) behind = 0
words_on (Words vs) behind = length vs + behind
words_on (Aligns size most) behind = 0
words_on (Sets name address) behind = behind

abbrev pub words_from : List ListingLine → ℕ
words_from [] = 0
words_from (l ∷ ls) = words_on l.statement (words_from ls)

abbrev pub runs_from : List ListingLine → List ℕ
runs_from [] = []
runs_from (l ∷ ls) = words_from (l ∷ ls) ∷ runs_from ls

-- the first line, counted from n, that has the label
abbrev pub label_line : Name → ℕ → List ListingLine → Option ℕ
label_line name n [] = None
label_line name n (l ∷ ls) = if is_among name l.names then Some n else label_line name (n + 1) ls

abbrev pub is_key : Name → Vec ℕ Global → Bool
is_key name key = bytes_eq name key.items
