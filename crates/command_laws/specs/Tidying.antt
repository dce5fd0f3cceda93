-- The theorem on `tidy` in one record, in the order in which a user would say it. It follows from the contract of the top call, and says nothing more.
use Rattle.std.specs.Prelude.{◌≡◌, ◌+◌, ◌*◌, ◌≤◌, ℕ, All, List, [], ◌∷◌, ◌++◌, Ok, length}
use Rattle.std.specs.Str.{IsUtf8}
use Rattle.thumb_model.specs.Listing.{ListingLine, code_of, places_of}
use Rattle.thumb_model.specs.Layout.{Layable}
use Rattle.thumb_model.specs.Same.{Same}
use Rattle.listing_parser.specs.Parsing.{IsListing, text_of_lines}
use Rattle.flow_tidy.specs.Tidying.{Change, AreTidied, AllPossible, NonePossible, setting}
use Rattle.command_line.specs.CommandLine.{tidy, AskFor}
use Rattle.outer_store.specs.Outside.{Putting, Seen, Sunk, Gave}
use Rattle.command_runs.specs.declared.status.Status.TheVariants as status
use Rattle.command_runs.specs.Plans.{Kept, fetchings, keepings}
use Rattle.audit_cli.specs.Printed.{tidied_report}
use Rattle.audit_cli.specs.Rewrite.{instruction_count}
use Rattle.audit_cli.specs.Peep.{Peeps}

-- what a call of `tidy LISTING OUT --base N` that ended as Done has done
pub record HasTidied (listing out : List ℕ) (base : ℕ) (old new : Seen) (before after : Sunk) : Type 0 where
  -- the text under the name was read; if the store shows its content, it is the one held there
  pub text : List ℕ
  pub text_held : Gave old listing text
  -- it is a well-formed listing, which can be laid out
  pub given : List ListingLine
  pub is_listing : IsListing text given
  pub given_layable : Layable base given
  -- the tidied lines: while some change is possible, one is made at the first place where one is: the first in the order in which they are tried
  pub lines : List ListingLine
  pub changes : List Change
  pub tidied : AreTidied (setting base) given changes lines
  -- they have the same runs from every state, in no more steps
  pub same : Same (code_of given) (code_of lines)
  -- no change is possible any more
  pub finished : NonePossible (setting base) lines
  -- each change was possible in the lines as they then were
  pub possible : AllPossible (setting base) given changes
  -- there are at most n * (n + 1) changes for n places, and no more places than before
  pub few : length changes ≤ length (places_of given) * (length (places_of given) + 1)
  pub no_more : length (places_of lines) ≤ length (places_of given)
  -- the lines can be laid out
  pub layable : Layable base lines
  -- the store was asked for the text, then to keep that of the lines, and for nothing else; if it shows its content, it holds that
  pub asked : new.events ≡ old.events ++ (fetchings (listing ∷ []) (text ∷ []) ++ keepings ((out, text_of_lines lines) ∷ []))
  pub held : Kept ((out, text_of_lines lines) ∷ []) old new
  -- the counts of changes, and of instructions before and after, were put, as one piece, and nothing else
  pub put : after.events ≡ before.events ++ Putting (tidied_report (length changes) (instruction_count given) (instruction_count lines)) (Ok tt) ∷ []

-- every call that ends as Done has done this, if the words ask for it
abbrev pub TidiesAsPromised : Type 0
TidiesAsPromised = (words : List (List ℕ)) (listing out : List ℕ) (base : ℕ) (old new : Seen) (before after : Sunk) → All IsUtf8 words → AskFor words (tidy listing out base)
    → Peeps words old new before after status.Done → HasTidied listing out base old new before after
