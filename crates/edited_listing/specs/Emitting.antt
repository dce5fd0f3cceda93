-- The lines of a listing that is being changed.
use Rattle.std.specs.Prelude.{ℕ, suc, ◌+◌, ◌==◌, Bool, false, List, [], ◌∷◌, ◌++◌, length, drop, Option, Some, None, if◌then◌else◌}
use Rattle.thumb_instr.specs.declared.instr.Instr.{Instr}
use Rattle.thumb_model.specs.Listing.{ListingLine, places_in}
use Rattle.thumb_model.specs.Replaced.{is_op, labels_kept, new_line}
use Rattle.edited_listing.specs.Items.{Item, AsGiven, New}

-- whether the next item is place p as it was given
abbrev pub is_given_at : ℕ → List Item → Bool
is_given_at p [] = false
is_given_at p (AsGiven q ∷ xs) = q == p
is_given_at p (New i home ∷ xs) = false

-- the lines of the next items that are new and have their home at p, and then the lines of the items after them
abbrev pub emit_at : (Instr → List ℕ) → ℕ → List Item → (List Item → List ListingLine) → List ListingLine
emit_at write p [] behind = behind []
emit_at write p (AsGiven q ∷ xs) behind = behind (AsGiven q ∷ xs)
emit_at write p (New i home ∷ xs) behind = if home == p then new_line write i ∷ emit_at write p xs behind else behind (New i home ∷ xs)

-- the line of the instruction at p: as it was given, or else its labels and the new instructions whose home it is
abbrev pub line_at : (Instr → List ℕ) → ℕ → ListingLine → List Item → (List Item → List ListingLine) → List ListingLine
line_at write p l xs behind = if is_given_at p xs then l ∷ behind (drop 1 xs) else labels_kept l l.names ++ emit_at write p xs behind

-- lines from place p on, with the items that are still to be emitted
abbrev pub lines_from : (Instr → List ℕ) → ℕ → List Item → List ListingLine → List ListingLine
lines_from write p xs [] = []
lines_from write p xs (l ∷ ls) =
    if is_op l.statement then line_at write p l xs (λ rest. lines_from write (suc p) rest ls)
    else l ∷ lines_from write (p + length (places_in l.statement)) (drop (length (places_in l.statement)) xs) ls

-- the next item, where it is new and has its home at p
abbrev pub new_at : ℕ → List Item → Option Instr
new_at p [] = None
new_at p (AsGiven q ∷ xs) = None
new_at p (New i home ∷ xs) = if home == p then Some i else None
