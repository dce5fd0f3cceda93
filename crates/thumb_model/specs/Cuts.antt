-- The lines after a replacement, given as before, new lines, and after: what `replaced_lines` defines line by line.
use Rattle.std.specs.Prelude.{◌≡◌, ℕ, zero, suc, ◌+◌, List, [], ◌∷◌, ◌++◌, length, map, true, if◌then◌else◌}
use Rattle.thumb_instr.specs.declared.instr.Instr.{Instr}
use Rattle.thumb_model.specs.Listing.{ListingLine, Place, Op, Word, places_of}
use Rattle.thumb_model.specs.Replaced.{is_op, labels_kept, new_line, replaced_lines}

-- the first n places are instructions
abbrev pub AreOps : ℕ → List Place → Type 0
AreOps zero ps = Unit {0}
AreOps (suc n) [] = ⊥
AreOps (suc n) (Op i mention ∷ ps) = AreOps n ps
AreOps (suc n) (Word w ∷ ps) = ⊥

-- how many of the lines are instructions, and the others
abbrev pub op_count : List ListingLine → ℕ
op_count [] = 0
op_count (l ∷ ls) = if is_op l.statement then op_count ls + 1 else op_count ls

abbrev pub others : List ListingLine → List ListingLine
others [] = []
others (l ∷ ls) = if is_op l.statement then others ls else l ∷ others ls

-- the lines before and after the window stay, the labels of its first line come before the new lines, and its lines that are no instructions after them
abbrev pub ReplacedLinesAreACut : Type 0
ReplacedLinesAreACut = (write : Instr → List ℕ) (before between after : List ListingLine) (first : ListingLine) (new : List Instr) → is_op first.statement ≡ true
    → replaced_lines write (length (places_of before)) (op_count between + 1) new (before ++ first ∷ (between ++ after)) ≡ before ++ (labels_kept first first.names ++ (map (new_line write) new ++ (others between ++ after)))
