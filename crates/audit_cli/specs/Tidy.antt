-- The outcome of `tidy`: a listing with the same runs, in which no more branches can be redirected or lines removed.
use Rattle.std.specs.Prelude.{◌≡◌, ℕ, List, [], ◌∷◌}
use Rattle.thumb_model.specs.Listing.{ListingLine, code_of}
use Rattle.thumb_model.specs.Layout.{Layable}
use Rattle.thumb_model.specs.Same.{Same}
use Rattle.listing_parser.specs.Parsing.{IsListing, text_of_lines}
use Rattle.flow_tidy.specs.Tidying.{NonePossible, AreTidiedBy, setting}
use Rattle.command_runs.specs.Plans.{Outcome, Refuses, Does}
use Rattle.audit_cli.specs.declared.refusal.Refusal.{Refusal}
use Rattle.audit_cli.specs.Printed.{refusal_line, tidied_report, IsUnread, IsUnlaid}
use Rattle.audit_cli.specs.Rewrite.{instruction_count}

-- the text of the tidied lines is kept, and the changes and the instructions before and after are counted
abbrev pub tidied_outcome : List ℕ → List ListingLine → List ListingLine → ℕ → Outcome
tidied_outcome out given lines changes = Does ((out, text_of_lines lines) ∷ []) (tidied_report changes (instruction_count given) (instruction_count lines))

-- a listing is tidied for an image that would begin at the base
pub record IsTidying (base : ℕ) (out : List ℕ) (given : List ListingLine) (o : Outcome) : Type 0 where
  -- the tidied listing, which is determined: each change is the first one that is possible
  pub lines : List ListingLine
  pub changes : ℕ
  pub tidied : AreTidiedBy base given lines changes
  -- it can be laid out
  pub layable : Layable base lines
  -- the same runs from every state, in no more steps
  pub same : Same (code_of given) (code_of lines)
  -- no change is possible any more
  pub finished : NonePossible (setting base) lines
  -- it is kept
  pub is : o ≡ tidied_outcome out given lines changes

-- the outcome for the lines of a listing: they are refused at the first one that can't be laid out from the base, or tidied
pub data LinesTidy (base : ℕ) (out : List ℕ) (given : List ListingLine) : Outcome → Type 0 where
  unlaid : (r : Refusal) → IsUnlaid base given r → LinesTidy base out given (Refuses (refusal_line r))
  tidied : Layable base given → (o : Outcome) → IsTidying base out given o → LinesTidy base out given o

-- the outcome for a text: it is refused at the first line that makes it no listing, or that of its lines
pub data Tidies (base : ℕ) (out text : List ℕ) : Outcome → Type 0 where
  unread : (r : Refusal) → IsUnread text r → Tidies base out text (Refuses (refusal_line r))
  read : (given : List ListingLine) → IsListing text given → (o : Outcome) → LinesTidy base out given o → Tidies base out text o

-- `tidy` takes one text
abbrev pub TidyComesTo : ℕ → List ℕ → List (List ℕ) → Outcome → Type 0
TidyComesTo base out texts o = (text : List ℕ) × (texts ≡ text ∷ []) × Tidies base out text o
