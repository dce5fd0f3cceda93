-- Commands with fit texts are carried out: which texts are fit, in that nothing in them lets the command be refused.
use Rattle.std.specs.Prelude.{◌≡◌, ◌≤◌, ◌⊎◌, ℕ, All, List, [], ◌∷◌, ◌++◌, Some, None, IsSome, codes}
use Rattle.std.specs.Str.{IsUtf8}
use Rattle.thumb_model.specs.Listing.{ListingLine, code_of, place_of}
use Rattle.thumb_model.specs.Layout.{Layable}
use Rattle.listing_parser.specs.Parsing.{IsListing}
use Rattle.rule_table.specs.Table.{Rule, Family, Table}
use Rattle.rule_table.specs.Refused.{IsText as IsTableText}
use Rattle.lrat_check.specs.Text.{Content}
use Rattle.table_audit.specs.Acceptance.{IsAccepted}
use Rattle.table_audit.specs.Shorter.{SidesFit}
use Rattle.table_audit.specs.Soundness.{items_in}
use Rattle.ascii_scan.specs.Lines.{text_limit}
use Rattle.table_learn.specs.Learnt.{Settings, text_length}
use Rattle.table_audit.specs.Acceptance.{widest, width_of}
use Rattle.seq_enum.specs.Costs.{IsCostText}
use Rattle.thumb_assembler.specs.Bytes.{first_flaw}
use Rattle.command_line.specs.CommandLine.{Request, rewrite, audit, learn, export, trace, demo, upgrade, trim, tidy, generalise, AskFor}
use Rattle.outer_store.specs.Outside.{Event, Seen, Sunk}
use Rattle.command_runs.specs.declared.status.Status.{Status}
use Rattle.command_runs.specs.Plans.{AreTexts, fetchings}
use Rattle.table_audit.specs.Families.{entry_at, entry_of, family_at, IsRaisable, AreEqualWithEach}
use Rattle.audit_cli.specs.Upgrade.{upgraded}
use Rattle.audit_cli.specs.Generalise.{wanted, IsRaisableFor, IsSpentOn}
use Rattle.audit_cli.specs.Peep.{plan_of, Peeps}
use Rattle.audit_cli.specs.Complete.{IsUnhindered, IsCarriedOut, IsCarriedOutOrFull}
use Rattle.command_laws.specs.Once.{AsksSolver}

-- ---- what is fit ----

-- an accepted table, and a well-formed listing that can be laid out; if an image is asked for, each external name has an address, and none lies in the image
pub record FitRewriting (image : List ℕ) (base : ℕ) (texts : List (List ℕ)) : Type 0 where
  pub table_text : List ℕ
  pub listing_text : List ℕ
  pub are : texts ≡ table_text ∷ listing_text ∷ []
  pub rules : Table
  pub is_table : IsTableText table_text rules
  pub accepted : IsAccepted rules
  pub given : List ListingLine
  pub is_listing : IsListing listing_text given
  pub layable : Layable base given
  -- if an image is asked for: each name that `b`, `bl` or `.word` mentions has a label or an address that a line sets, and no set address lies in the image
  pub addresses : (image ≡ codes "-" → ⊥) → first_flaw base given ≡ None

-- an accepted table
pub record FitAudit (texts : List (List ℕ)) : Type 0 where
  pub text : List ℕ
  pub is_text : texts ≡ text ∷ []
  pub rules : Table
  pub is_table : IsTableText text rules
  pub accepted : IsAccepted rules

-- an accepted table whose text isn't too long in the version in which it is kept
pub record FitUpgrade (texts : List (List ℕ)) : Type 0 where
  pub text : List ℕ
  pub is_text : texts ≡ text ∷ []
  pub rules : Table
  pub is_table : IsTableText text rules
  pub accepted : IsAccepted rules
  pub short : text_length (upgraded rules) ≤ text_limit

-- the table has an entry with this number, whose sides and mask the header allows
pub record HasFitEntry (rules : Table) (number : ℕ) : Type 0 where
  pub entry : Rule
  pub is_entry : entry_at rules.rules number ≡ Some entry
  pub fit : SidesFit rules entry

-- the table has a family with this number after its entries, which raises such an entry, and whose number can be raised
pub record HasFitFamily (rules : Table) (number : ℕ) : Type 0 where
  pub family : Family
  pub is_family : family_at rules number ≡ Some family
  pub entry : Rule
  pub is_entry : entry_of rules family ≡ Some entry
  pub fit : SidesFit rules entry
  pub raisable : IsRaisable rules.header.pool family entry.left

-- a table, which need not be accepted, with such an entry or such a family
pub record FitExport (number : ℕ) (texts : List (List ℕ)) : Type 0 where
  pub text : List ℕ
  pub is_text : texts ≡ text ∷ []
  pub rules : Table
  pub is_table : IsTableText text rules
  pub has : HasFitEntry rules number ⊎ HasFitFamily rules number

-- a well-formed listing that can be laid out from 0 on, with this code label
pub record FitTrace (label : List ℕ) (texts : List (List ℕ)) : Type 0 where
  pub text : List ℕ
  pub is_text : texts ≡ text ∷ []
  pub lines : List ListingLine
  pub is_listing : IsListing text lines
  pub layable : Layable 0 lines
  pub labelled : IsSome (place_of (code_of lines) label)

-- a well-formed listing that can be laid out from the base on
pub record FitTidying (base : ℕ) (texts : List (List ℕ)) : Type 0 where
  pub text : List ℕ
  pub is_text : texts ≡ text ∷ []
  pub lines : List ListingLine
  pub is_listing : IsListing text lines
  pub layable : Layable base lines

-- a well-formed listing, and settings with at most 5,000,000 sequences that may be below the longest windows
pub record FitLearning (s : Settings) (texts : List (List ℕ)) : Type 0 where
  pub text : List ℕ
  pub is_text : texts ≡ text ∷ []
  pub lines : List ListingLine
  pub is_listing : IsListing text lines
  pub narrow : width_of s ≤ widest

-- a well-formed listing, and a text of costs with which the settings have no more such sequences than that
pub record FitLearningByCosts (s : Settings) (texts : List (List ℕ)) : Type 0 where
  pub text : List ℕ
  pub cost_text : List ℕ
  pub are : texts ≡ text ∷ cost_text ∷ []
  pub lines : List ListingLine
  pub is_listing : IsListing text lines
  pub costs : List ℕ
  pub are_costs : IsCostText cost_text costs
  pub narrow : width_of (record s { version = 4; costs = Some costs }) ≤ widest

-- an accepted table with an entry whose number can be raised in this way and whose sides with each value are equal under the mask, if no log spends the budget
pub record FitGeneralising (f : Family) (texts : List (List ℕ)) : Type 0 where
  pub text : List ℕ
  pub is_text : texts ≡ text ∷ []
  pub rules : Table
  pub is_table : IsTableText text rules
  pub accepted : IsAccepted rules
  pub entry : Rule
  pub raisable : IsRaisableFor rules f entry
  pub equal : AreEqualWithEach f entry (items_in entry.mask)
  pub unspent : (log : List Content) → IsSpentOn rules f log → ⊥

-- the texts are fit for a request
abbrev pub AreFit : Request → List (List ℕ) → Type 0
AreFit (rewrite table listing out image base) texts = FitRewriting image base texts
AreFit (audit table) texts = FitAudit texts
AreFit (learn listing out None s) texts = FitLearning s texts
AreFit (learn listing out (Some costs) s) texts = FitLearningByCosts s texts
AreFit (export table entry cnf lrat) texts = FitExport entry texts
AreFit (trace listing label steps) texts = FitTrace label texts
AreFit (demo windows) texts = Unit {0}
AreFit (upgrade table out) texts = FitUpgrade texts
AreFit (trim table out) texts = FitAudit texts
AreFit (tidy listing out base) texts = FitTidying base texts
AreFit (generalise table entry number low high out) texts = FitGeneralising (wanted entry number low high) texts

-- ---- the laws ----

-- these are the texts that a call read under the names: those that its fetches returned, and if the store shows its content, those that it held
pub record WereRead (old new : Seen) (names texts : List (List ℕ)) : Type 0 where
  pub are : AreTexts old names texts
  pub later : List Event
  pub answered : new.events ≡ old.events ++ (fetchings names texts ++ later)

-- the texts that the call read are fit
abbrev pub ReadsFit : Request → Seen → Seen → Type 0
ReadsFit r old new = (texts : List (List ℕ)) → WereRead old new (plan_of r).names texts → AreFit r texts

-- if fit texts are read, what the words ask for is carried out; where the solver is asked, the table's text may also be too long
abbrev pub FitTextsAreCarriedOut : Type 0
FitTextsAreCarriedOut = (words : List (List ℕ)) (r : Request) (old new : Seen) (before after : Sunk) (s : Status) → All IsUtf8 words → AskFor words r → Peeps words old new before after s
    → IsUnhindered (plan_of r) old new before after → ReadsFit r old new → (AsksSolver r → ⊥) → IsCarriedOut s

abbrev pub FitTextsAreLearntFrom : Type 0
FitTextsAreLearntFrom = (words : List (List ℕ)) (r : Request) (old new : Seen) (before after : Sunk) (s : Status) → All IsUtf8 words → AskFor words r → Peeps words old new before after s
    → IsUnhindered (plan_of r) old new before after → ReadsFit r old new → IsCarriedOutOrFull before after s
