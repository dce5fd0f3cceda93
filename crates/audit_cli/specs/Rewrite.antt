-- The outcome of the command `rewrite`: the program's headline theorem, without the calls of the store and the sink.
use Rattle.std.specs.Prelude.{◌≡◌, ◌≤◌, ◌+◌, ℕ, List, [], ◌∷◌, ◌++◌, None, length, codes, if◌then◌else◌}
use Rattle.thumb_model.specs.Listing.{Name, ListingLine, code_of}
use Rattle.thumb_model.specs.Layout.{Layable}
use Rattle.thumb_model.specs.Naming.{Fits, laid}
use Rattle.thumb_model.specs.Same.{Same}
use Rattle.rule_model.specs.Rewriting.{Replacement, AreRewritten, AllApplied, NoneApplies}
use Rattle.thumb_model.specs.Replaced.{is_op}
use Rattle.rule_table.specs.Table.{Table}
use Rattle.table_audit.specs.Soundness.{IsSound}
use Rattle.listing_parser.specs.Parsing.{IsListing, text_of_lines}
use Rattle.window_rewrite.specs.TableRewriting.{setting}
use Rattle.thumb_assembler.specs.Bytes.{IsSetBy}
use Rattle.thumb_assembler.specs.Runs.{IsAssembled, ImageFollows}
use Rattle.command_runs.specs.Plans.{Outcome, Refuses, Does}
use Rattle.audit_cli.specs.Printed.{report_of, image_line, refusal_line, HasNoImage, IsAudited, IsUnaudited, IsUnread, IsUnlaid}
use Rattle.audit_cli.specs.declared.refusal.Refusal.{Refusal}

-- the names that a rewritten listing and its image are kept under, and where the image lies
pub record Destination : Type 0 where
  pub out : List ℕ
  pub image : List ℕ
  pub base : ℕ

-- no image is asked for
abbrev pub WantsNone : Destination → Type 0
WantsNone to = to.image ≡ codes "-"

-- ---- what is kept and printed ----

-- how many instructions lines hold
abbrev pub instruction_count : List ListingLine → ℕ
instruction_count [] = 0
instruction_count (l ∷ ls) = if is_op l.statement then instruction_count ls + 1 else instruction_count ls

-- how many replacements were made, and how many instructions there were before and after
pub record Counts : Type 0 where
  pub replaced : ℕ
  pub before : ℕ
  pub after : ℕ

-- the listing is kept, then its image if one is asked for, and the counts and the image's size are printed; if it has no image, the command is refused
pub data Leaves (to : Destination) (lines : List ListingLine) (c : Counts) : Outcome → Type 0 where
  alone : WantsNone to → Leaves to lines c (Does ((to.out, text_of_lines lines) ∷ []) (report_of c.replaced c.before c.after))
  pair : (WantsNone to → ⊥) → (bytes : List ℕ) → IsAssembled to.base lines bytes
      → Leaves to lines c (Does ((to.out, text_of_lines lines) ∷ (to.image, bytes) ∷ []) (report_of c.replaced c.before c.after ++ image_line (length bytes)))
  no_image : (WantsNone to → ⊥) → (r : Refusal) → HasNoImage to.base lines r → Leaves to lines c (Refuses (refusal_line r))

-- ---- the headline ----

-- the run of an image of lines that were rewritten
pub record RunsAsPromised (base : ℕ) (given lines : List ListingLine) (bytes : List ℕ) : Type 0 where
  -- wherever the laid naming fits these lines, it reaches what their run reaches
  pub as_left : (set : Name → ℕ) → IsSetBy lines set → Fits (laid base set lines) (code_of lines) → ImageFollows base set lines bytes lines
  -- and what the given lines' run reaches, wherever the naming fits those too
  pub as_given : (set : Name → ℕ) → IsSetBy lines set → Fits (laid base set lines) (code_of lines) → Fits (laid base set lines) (code_of given) → ImageFollows base set lines bytes given

-- a listing is rewritten by a table
pub record IsRewriting (to : Destination) (t : Table) (given : List ListingLine) (o : Outcome) : Type 0 where
  -- the rewritten listing, which is determined: each replacement is the first that can be made
  pub replacements : List Replacement
  pub lines : List ListingLine
  pub rewritten : AreRewritten (setting to.base t) given replacements lines
  -- its text is read as these lines, which can be laid out, and which are no more than before if the table has no costs
  pub listed : IsListing (text_of_lines lines) lines
  pub no_longer : t.header.costs ≡ None → length lines ≤ length given
  pub layable : Layable to.base lines
  -- the same runs from every state, in no more steps
  pub same : Same (code_of given) (code_of lines)
  -- no rule applies any more
  pub finished : NoneApplies (setting to.base t) lines
  -- each replacement applied in the listing as it then was, and has the same effect on the live registers and flags; no shorter sequence of the entry's
  -- alphabet has, or if the table has costs no cheaper one that is no longer than the left side, save those that the entry leaves open, each with its log
  pub applied : AllApplied (setting to.base t) given replacements
  pub sound : IsSound t
  -- the run of each image of it reaches what both listings' runs reach, wherever the laid naming fits
  pub runs : (bytes : List ℕ) → IsAssembled to.base lines bytes → RunsAsPromised to.base given lines bytes
  -- it is kept, and its image, or the image is refused
  pub left : Leaves to lines (record { replaced = length replacements; before = instruction_count given; after = instruction_count lines }) o

-- the outcome for the lines of a listing, with an accepted table: they are refused at the first one that can't be laid out from the base, or rewritten
pub data LinesRewrite (to : Destination) (t : Table) (given : List ListingLine) : Outcome → Type 0 where
  unlaid : (r : Refusal) → IsUnlaid to.base given r → LinesRewrite to t given (Refuses (refusal_line r))
  rewritten : Layable to.base given → (o : Outcome) → IsRewriting to t given o → LinesRewrite to t given o

-- the outcome for a listing's text, with an accepted table: it is refused at the first line that makes it no listing, or that of its lines
pub data Rewrites (to : Destination) (t : Table) (text : List ℕ) : Outcome → Type 0 where
  unread : (r : Refusal) → IsUnread text r → Rewrites to t text (Refuses (refusal_line r))
  read : (given : List ListingLine) → IsListing text given → (o : Outcome) → LinesRewrite to t given o → Rewrites to t text o

-- the outcome for the texts of a table and a listing: the table is refused, or it is accepted and the outcome is that of the listing's text
pub data Comes (to : Destination) (table listing : List ℕ) : Outcome → Type 0 where
  unaudited : (r : Refusal) → IsUnaudited table r → Comes to table listing (Refuses (refusal_line r))
  audited : (t : Table) → IsAudited table t → (o : Outcome) → Rewrites to t listing o → Comes to table listing o

-- `rewrite` takes two texts
abbrev pub RewriteComesTo : Destination → List (List ℕ) → Outcome → Type 0
RewriteComesTo to texts o = (table : List ℕ) × (listing : List ℕ) × (texts ≡ table ∷ listing ∷ []) × Comes to table listing o
