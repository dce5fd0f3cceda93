-- A listing from which instructions are removed and in which branches are redirected, by the places of the given lines.
use Rattle.std.specs.Prelude.{ℕ, zero, suc, Bool, true, false, List, [], ◌∷◌, ◌++◌, length, drop, replicate, Option, Some, None, slice_get, if◌then◌else◌}
use Rattle.thumb_instr.specs.declared.instr.Instr.{Instr}
use Rattle.thumb_model.specs.Listing.{Name, Mention, Place, Op, Word, ListingLine, places_in, places_of}
use Rattle.thumb_model.specs.Replaced.{is_op, labels_kept}
use Rattle.kept_places.specs.Marks.{is_gone, rank}
use Rattle.listing_parser.specs.Parsing.{line_mentioning}
use Rattle.listing_parser.specs.Targets.{aimed_line}

-- the lines that were given, which of their places are gone, and for each place the label that its branch goes to now, where that was changed
pub record Drafted : Type 0 where
  pub given : List ListingLine
  pub gone : List Bool
  pub aims : List (Option Name)

abbrev pub aim_at : List (Option Name) → ℕ → Option Name
aim_at [] p = None
aim_at (a ∷ os) zero = a
aim_at (a ∷ os) (suc p) = aim_at os p

-- what the line of an instruction is now
abbrev pub line_now : Bool → Option Name → ListingLine → List ListingLine
line_now true aim l = labels_kept l l.names
line_now false None l = l ∷ []
line_now false (Some label) l = labels_kept l l.names ++ (aimed_line line_mentioning label l ∷ [])

abbrev pub now_of : List Bool → List (Option Name) → List ListingLine → List ListingLine
now_of gone aims [] = []
now_of gone aims (l ∷ ls) =
    if is_op l.statement then line_now (is_gone gone 0) (aim_at aims 0) l ++ now_of (drop 1 gone) (drop 1 aims) ls
    else l ∷ now_of (drop (length (places_in l.statement)) gone) (drop (length (places_in l.statement)) aims) ls

-- the lines now
abbrev pub lines_now : Drafted → List ListingLine
lines_now d = now_of d.gone d.aims d.given

-- what stands in them at a kept place
abbrev pub stands : Drafted → ℕ → Option Place
stands d p = slice_get (places_of (lines_now d)) (rank d.gone p)

-- a listing of which nothing is changed
abbrev pub unchanged : List ListingLine → Drafted
unchanged ls = record { given = ls; gone = replicate (length (places_of ls)) false; aims = replicate (length (places_of ls)) None }

-- the instruction at a place, and the name that it mentions
abbrev pub instr_in : Option Place → Option Instr
instr_in None = None
instr_in (Some (Op i m)) = Some i
instr_in (Some (Word v)) = None

abbrev pub name_of : Option Mention → Option Name
name_of None = None
name_of (Some m) = Some m.name

abbrev pub name_in : Option Place → Option Name
name_in None = None
name_in (Some (Op i m)) = name_of m
name_in (Some (Word v)) = None
