-- The places of a listing as windows see them: a row for each, from which runs are read.
use Rattle.std.specs.Prelude.{◌&&◌, Bool, true, false, List, [], ◌∷◌, ◌++◌, map, Option, Some, None, if◌then◌else◌}
use Rattle.thumb_instr.specs.declared.instr.Instr.{Instr}
use Rattle.thumb_instr.specs.Window.{is_in_window}
use Rattle.thumb_model.specs.Listing.{Name, Mention, Value, Statement, Nothing, Instruction, Words, Aligns, Sets, ListingLine}
use Rattle.window_runs.specs.declared.rows.WindowPlace.{WindowPlace}

abbrev pub is_unlabelled : List Name → Bool
is_unlabelled [] = true
is_unlabelled (n ∷ ns) = false

-- the instruction, where it mentions nothing and may stand in a window
abbrev pub window_instr : Instr → Option Mention → Option Instr
window_instr i None = if is_in_window i then Some i else None
window_instr i (Some m) = None

-- a data word has no instruction
abbrev pub word_row : Value → WindowPlace
word_row v = record { instr = None; is_joined = false }

-- of each place, its instruction, if that may stand in a window, and whether no label and no alignment line stands between it and an instruction right before
abbrev pub rows_of : Bool → Statement → List WindowPlace
rows_of joined Nothing = []
rows_of joined (Instruction i m) = record { instr = window_instr i m; is_joined = joined } ∷ []
rows_of joined (Words vs) = map word_row vs
rows_of joined (Aligns size most) = []
rows_of joined (Sets name address) = []

-- whether the place behind the statement is joined to what stands before it, where no label stands between
abbrev pub stays_joined : Bool → Statement → Bool
stays_joined joined Nothing = joined
stays_joined joined (Instruction i m) = true
stays_joined joined (Words vs) = joined
stays_joined joined (Aligns size most) = false
stays_joined joined (Sets name address) = joined

abbrev pub rows_from : Bool → List ListingLine → List WindowPlace
rows_from joined [] = []
rows_from joined (l ∷ ls) =
    rows_of (joined && is_unlabelled l.names) l.statement ++ rows_from (stays_joined (joined && is_unlabelled l.names) l.statement) ls
