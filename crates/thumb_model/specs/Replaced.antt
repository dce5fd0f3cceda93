-- The windows of a listing, and its places, labels and lines after one window is replaced.
use Rattle.std.specs.Prelude.{◌≡◌, ℕ, ◌+◌, ◌-◌, ◌≤◌, ◌⊎◌, min, max, List, ◌++◌, length, take, drop, map, zero, suc, ◌==◌, ◌&&◌, Bool, true, false, [], ◌∷◌, Some, None, slice_get, if◌then◌else◌}
use Rattle.std.specs.List.{list_all}
use Rattle.thumb_instr.specs.declared.instr.Instr.{Instr}
use Rattle.thumb_instr.specs.Window.{is_in_window}
use Rattle.thumb_model.specs.Listing.{plain, Label, Code, Name, Statement, Nothing, Instruction, Words, Aligns, Sets, ListingLine, places_in, places_of, labels_from}

-- The places and labels after instructions are replaced.

-- the number of place q after `gone` places are removed at p
abbrev pub moved : ℕ → ℕ → ℕ → ℕ
moved p gone q = max (min q p) (q - gone)

abbrev pub move_label : ℕ → ℕ → Label → Label
move_label p gone l = record { name = l.name; place = moved p gone l.place }

-- the code with these instructions in place of `count` from place p on
abbrev pub replaced : Code → ℕ → ℕ → List Instr → Code
replaced code p count is = record {
  places = take p code.places ++ (map plain is ++ drop (p + count) code.places);
  labels = map (move_label p (count - length is)) code.labels;
}

-- The lines after instructions are replaced.

abbrev pub is_op : Statement → Bool
is_op Nothing = false
is_op (Instruction i mention) = true
is_op (Words vs) = false
is_op (Aligns size most) = false
is_op (Sets name address) = false

abbrev pub is_align : Statement → Bool
is_align Nothing = false
is_align (Instruction i mention) = false
is_align (Words vs) = false
is_align (Aligns size most) = true
is_align (Sets name address) = false

-- the lines without the lines of their first n instructions, whose labels go too
abbrev pub without : ℕ → List ListingLine → List ListingLine
without n [] = []
without zero (l ∷ ls) = l ∷ ls
without (suc n) (l ∷ ls) = if is_op l.statement then without n ls else l ∷ without (suc n) ls

-- what stays of the line of the first instruction that is replaced: its labels, if it has any
abbrev pub labels_kept : ListingLine → List Name → List ListingLine
labels_kept l [] = []
labels_kept l (n ∷ ns) = record { names = n ∷ ns; statement = Nothing; text = l.front; front = l.front } ∷ []

-- the line of a new instruction
abbrev pub new_line : (Instr → List ℕ) → Instr → ListingLine
new_line write i = record { names = []; statement = Instruction i None; text = write i; front = [] }

-- the lines with these instructions in place of `count` from place p on: all other lines stay byte for byte
abbrev pub replaced_lines : (Instr → List ℕ) → ℕ → ℕ → List Instr → List ListingLine → List ListingLine
replaced_lines write p count is [] = []
replaced_lines write p count is (l ∷ ls) =
    if is_op l.statement && (p == 0) then labels_kept l l.names ++ (map (new_line write) is ++ without (count - 1) ls)
    else l ∷ replaced_lines write (p - length (places_in l.statement)) count is ls

-- no alignment line stands between the next n instructions
abbrev pub are_joined : ℕ → List ListingLine → Bool
are_joined zero ls = true
are_joined (suc n) [] = true
are_joined (suc n) (l ∷ ls) = if is_op l.statement then are_joined n ls else (if is_align l.statement then false else are_joined (suc n) ls)

-- no alignment line stands between the `count` instructions from place p on
abbrev pub are_joined_from : ℕ → ℕ → List ListingLine → Bool
are_joined_from p count [] = true
are_joined_from p count (l ∷ ls) =
    if is_op l.statement && (p == 0) then are_joined (count - 1) ls
    else are_joined_from (p - length (places_in l.statement)) count ls

-- consecutive instructions from a place on that may stand in a window, with no label and no alignment line between them
pub record IsWindow (lines : List ListingLine) (place : ℕ) (window : List Instr) : Type 0 where
  pub stands : take (length window) (drop place (places_of lines)) ≡ map plain window
  pub in_window : list_all is_in_window window ≡ true
  pub unlabelled : (k : ℕ) (l : Label) → slice_get (labels_from 0 lines) k ≡ Some l → (l.place ≤ place) ⊎ (place + length window ≤ l.place)
  pub joined : are_joined_from place (length window) lines ≡ true
