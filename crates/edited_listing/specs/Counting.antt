-- How many lines there are when instructions give way: a line with labels leaves one for them.
use Rattle.std.specs.Prelude.{ℕ, ◌-◌, ◌==◌, ◌&&◌, Bool, true, false, cond, List, [], ◌∷◌, ◌++◌, length, replicate, if◌then◌else◌}
use Rattle.thumb_model.specs.Listing.{Name, Statement, Nothing, Instruction, Words, Aligns, Sets, ListingLine, places_in}
use Rattle.thumb_model.specs.Replaced.{is_op}
use Rattle.edited_listing.specs.Items.{Item, AsGiven, New}

-- one for true
abbrev pub one_if : Bool → ℕ
one_if b = cond b 1 0

abbrev pub some_name : List Name → Bool
some_name [] = false
some_name (n ∷ ns) = true

-- whether the line of the instruction after r places has a label
abbrev pub is_labelled : ℕ → List ListingLine → Bool
is_labelled r [] = false
is_labelled r (l ∷ ls) = if is_op l.statement && (r == 0) then some_name l.names else is_labelled (r - length (places_in l.statement)) ls

-- for each place, whether its line is an instruction's with a label
abbrev pub labels_in : Bool → Statement → List Bool
labels_in some Nothing = []
labels_in some (Instruction i mention) = some ∷ []
labels_in some (Words vs) = replicate (length vs) false
labels_in some (Aligns size most) = []
labels_in some (Sets name address) = []

abbrev pub op_labels : List ListingLine → List Bool
op_labels [] = []
op_labels (l ∷ ls) = labels_in (some_name l.names) l.statement ++ op_labels ls

-- whether the line of an item has a label: that of a new one has none
abbrev pub item_labelled : ℕ → List ListingLine → Item → Bool
item_labelled p ls (AsGiven q) = is_labelled (q - p) ls
item_labelled p ls (New i home) = false
