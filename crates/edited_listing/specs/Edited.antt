-- A listing that is being changed, and the code whose places stay.
use Rattle.std.specs.Prelude.{◌≡◌, ℕ, Bool, true, List, [], ◌∷◌, length, replicate, Option, Some, None, slice_get}
use Rattle.thumb_instr.specs.declared.instr.Instr.{Instr}
use Rattle.thumb_model.specs.Listing.{Place, Op, Word, plain, ListingLine, Code, places_of, labels_from}
use Rattle.listing_parser.specs.Parsing.{own_line}
use Rattle.window_runs.specs.Rows.{window_instr}
use Rattle.padded_code.specs.Padding.{nop}
use Rattle.edited_listing.specs.declared.standing.Standing.{Standing}
use Rattle.edited_listing.specs.declared.standing.Standing.TheVariants as standing
use Rattle.edited_listing.specs.Items.{items_from, AreSorted}
use Rattle.edited_listing.specs.Changes.{marks_of}
use Rattle.edited_listing.specs.Emitting.{lines_from}
use Rattle.edited_listing.specs.Giving.{is_word}
use Rattle.edited_listing.specs.Places.{AreHome}

-- the lines that were given, and what stands at each of their places now
pub record Edited : Type 0 where
  pub given : List ListingLine
  pub stands : List Standing

-- the place as it stands
abbrev pub standing_place : Standing → Place → Place
standing_place standing.Given x = x
standing_place standing.Gone x = nop
standing_place (standing.New i home) x = plain i

abbrev pub standing_places : List Standing → List Place → List Place
standing_places [] xs = xs
standing_places (s ∷ ss) [] = []
standing_places (s ∷ ss) (x ∷ xs) = standing_place s x ∷ standing_places ss xs

-- the code of all places, with a nop where one is gone
abbrev pub padded : Edited → Code
padded e = record { places = standing_places e.stands (places_of e.given); labels = labels_from 0 e.given }

-- a listing of which nothing is changed
abbrev pub unchanged : List ListingLine → Edited
unchanged ls = record { given = ls; stands = replicate (length (places_of ls)) standing.Given }

-- which places are gone
abbrev pub marks : Edited → List Bool
marks e = marks_of e.stands

-- the lines now
abbrev pub lines_now : Edited → List ListingLine
lines_now e = lines_from own_line 0 (items_from 0 e.stands) e.given

-- the instruction at a place, where it may stand in a window
abbrev pub instr_in : Option Place → Option Instr
instr_in None = None
instr_in (Some (Op i m)) = window_instr i m
instr_in (Some (Word v)) = None

-- one standing for each place; kept places are in the order of their homes, a new instruction's home held an instruction, and no data word gives way
pub record IsEdited (e : Edited) : Type 0 where
  pub as_many : length e.stands ≡ length (places_of e.given)
  pub sorted : AreSorted 0 0 (items_from 0 e.stands)
  pub home : AreHome (slice_get (places_of e.given)) (items_from 0 e.stands)
  pub words : (p : ℕ) → is_word (slice_get (places_of e.given) p) ≡ true → slice_get e.stands p ≡ Some standing.Given
