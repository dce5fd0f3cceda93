-- The theorem on `rewrite` in one record, in the order in which a user would say it. It follows from the contract of the top call, and says nothing more.
use Rattle.std.specs.Prelude.{◌≡◌, ◌≤◌, ℕ, All, List, [], ◌∷◌, ◌++◌, Option, Some, None, Ok, length}
use Rattle.std.specs.Str.{IsUtf8}
use Rattle.thumb_model.specs.Listing.{ListingLine, code_of}
use Rattle.thumb_model.specs.Layout.{Layable}
use Rattle.thumb_model.specs.Same.{Same}
use Rattle.rule_model.specs.Rewriting.{Replacement, AreRewritten, AllApplied, NoneApplies}
use Rattle.listing_parser.specs.Parsing.{IsListing, text_of_lines}
use Rattle.rule_table.specs.Table.{Table}
use Rattle.rule_table.specs.Refused.{IsText as IsTableText}
use Rattle.table_audit.specs.Acceptance.{IsAccepted}
use Rattle.table_audit.specs.Soundness.{IsSound}
use Rattle.window_rewrite.specs.TableRewriting.{setting}
use Rattle.thumb_assembler.specs.Runs.{IsAssembled}
use Rattle.command_line.specs.CommandLine.{rewrite, AskFor}
use Rattle.outer_store.specs.Outside.{Putting, Seen, Sunk, Gave}
use Rattle.command_runs.specs.declared.status.Status.TheVariants as status
use Rattle.command_runs.specs.Plans.{Keep, Kept, fetchings, keepings}
use Rattle.audit_cli.specs.Printed.{report_of, image_line}
use Rattle.audit_cli.specs.Rewrite.{Destination, WantsNone, RunsAsPromised, instruction_count}
use Rattle.audit_cli.specs.Peep.{Peeps}

-- ---- the image, where one is asked for ----

-- none is asked for; or it holds the bytes of these lines, and its run reaches what the runs of these and of the given lines reach, wherever the laid
-- naming fits
abbrev pub IsImage : Destination → List ListingLine → List ListingLine → Option (List ℕ) → Type 0
IsImage to given lines None = WantsNone to
IsImage to given lines (Some bytes) = (WantsNone to → ⊥) × IsAssembled to.base lines bytes × RunsAsPromised to.base given lines bytes

abbrev pub image_kept : List ℕ → Option (List ℕ) → List Keep
image_kept name None = []
image_kept name (Some bytes) = (name, bytes) ∷ []

abbrev pub image_told : Option (List ℕ) → List ℕ
image_told None = []
image_told (Some bytes) = image_line (length bytes)

-- ---- the whole ----

-- what a call of `rewrite TABLE LISTING OUT IMAGE --base N` that ended as Done has done
pub record IsHeadline (table listing : List ℕ) (to : Destination) (old new : Seen) (before after : Sunk) : Type 0 where
  -- the texts under two names were read; if the store shows its content, they are those held there
  pub table_text : List ℕ
  pub listing_text : List ℕ
  pub table_held : Gave old table table_text
  pub listing_held : Gave old listing listing_text
  -- the first is a table that the audit accepts
  pub rules : Table
  pub is_table : IsTableText table_text rules
  pub accepted : IsAccepted rules
  -- the second is a well-formed listing, which can be laid out
  pub given : List ListingLine
  pub is_listing : IsListing listing_text given
  pub given_layable : Layable to.base given
  -- the rewritten lines: while some rule applies, one is applied at the first place where one does: that with the longest left side, then the first in order
  pub lines : List ListingLine
  pub replacements : List Replacement
  pub rewritten : AreRewritten (setting to.base rules) given replacements lines
  -- they have the same runs from every state, in no more steps
  pub same : Same (code_of given) (code_of lines)
  -- no rule applies to them any more
  pub finished : NoneApplies (setting to.base rules) lines
  -- each replacement applied in the lines as they then were
  pub applied : AllApplied (setting to.base rules) given replacements
  -- each replacement has the same effect on the live registers and flags, and no shorter sequence of the entry's alphabet has, or if the table has costs no
  -- cheaper one that is no longer than the left side, save those that the entry leaves open, each with its log
  pub sound : IsSound rules
  -- they can be laid out, their text is read as these lines, and if the table has no costs, they are no more than the given ones
  pub no_longer : rules.header.costs ≡ None → length lines ≤ length given
  pub layable : Layable to.base lines
  pub read_again : IsListing (text_of_lines lines) lines
  -- if an image is asked for, it is that of these lines, and its run reaches what theirs and that of the given lines reach, wherever the laid naming fits
  pub image : Option (List ℕ)
  pub is_image : IsImage to given lines image
  -- the store was asked for the two texts, then to keep the lines' text and the image, and for nothing else; if it shows its content, it holds them
  pub keeps : List Keep
  pub kept_are : keeps ≡ (to.out, text_of_lines lines) ∷ image_kept to.image image
  pub asked : new.events ≡ old.events ++ (fetchings (table ∷ listing ∷ []) (table_text ∷ listing_text ∷ []) ++ keepings keeps)
  pub held : Kept keeps old new
  -- the counts of replacements, of instructions before and after, and of the image's bytes were put, as one piece, and nothing else
  pub put : after.events ≡ before.events ++ Putting (report_of (length replacements) (instruction_count given) (instruction_count lines) ++ image_told image) (Ok tt) ∷ []

-- every call that ends as Done has done this, if the words ask for it
abbrev pub RewritesAsPromised : Type 0
RewritesAsPromised = (words : List (List ℕ)) (table listing out image : List ℕ) (base : ℕ) (old new : Seen) (before after : Sunk) → All IsUtf8 words → AskFor words (rewrite table listing out image base)
    → Peeps words old new before after status.Done → IsHeadline table listing (record { out = out; image = image; base = base }) old new before after
