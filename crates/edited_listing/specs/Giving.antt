-- Instructions that give way to others in a listing whose places stay.
use Rattle.std.specs.Prelude.{◌≡◌, ℕ, zero, suc, ◌+◌, ◌-◌, ◌==◌, ◌&&◌, Bool, true, false, List, [], ◌∷◌, length, Option, Some, slice_get, nat_le, if◌then◌else◌}
use Rattle.thumb_instr.specs.declared.instr.Instr.{Instr}
use Rattle.thumb_model.specs.Listing.{Place, Word, Name, ListingLine, places_in, places_of}
use Rattle.thumb_model.specs.Replaced.{is_op, replaced_lines}
use Rattle.edited_listing.specs.Items.{Item, AreSorted, has_given, spliced}
use Rattle.edited_listing.specs.Emitting.{lines_from}

-- the next n places of lines are those of instructions without labels
abbrev pub is_unlabelled : List Name → Bool
is_unlabelled [] = true
is_unlabelled (n ∷ ns) = false

abbrev pub are_free : ℕ → List ListingLine → Bool
are_free n [] = true
are_free zero (l ∷ ls) = true
are_free (suc n) (l ∷ ls) = if is_op l.statement then is_unlabelled l.names && are_free n ls else (length (places_in l.statement) == 0) && are_free (suc n) ls

-- after r places of lines comes an instruction, and after it n others without labels
abbrev pub are_free_from : ℕ → ℕ → List ListingLine → Bool
are_free_from r n [] = true
are_free_from r n (l ∷ ls) =
    if is_op l.statement && (r == 0) then are_free n ls
    else nat_le (length (places_in l.statement)) r && are_free_from (r - length (places_in l.statement)) n ls

abbrev pub is_word : Option Place → Bool
is_word (Some (Word v)) = true
is_word p = false

-- the data words among lines from place p on stand as they were given
abbrev pub WordsStand : ℕ → List Item → List ListingLine → Type 0
WordsStand p xs ls = (k : ℕ) → is_word (slice_get (places_of ls) k) ≡ true → has_given (p + k) xs ≡ true

-- where items give way, the same instructions are replaced in the lines
abbrev pub LinesGiveWay : Type 0
LinesGiveWay =
    (write : Instr → List ℕ) (r n p : ℕ) (is : List Instr) (xs : List Item) (ls : List ListingLine) → AreSorted p p xs → WordsStand p xs ls → are_free_from r n (lines_from write p xs ls) ≡ true →
    lines_from write p (spliced r (suc n) is xs) ls ≡ replaced_lines write r (suc n) is (lines_from write p xs ls)
