-- The lines that commands print, and the causes of the refusals that several commands share.
use Rattle.std.specs.Prelude.{ℕ, List, [], ◌∷◌, ◌++◌, codes, ◌≡◌, Some}
use Rattle.std.specs.Fmt.{decimal, signed_decimal}
use Rattle.thumb_model.specs.Layout as layout
use Rattle.listing_parser.specs.declared.errors.ListingFault.{ListingFault}
use Rattle.listing_parser.specs.declared.errors.ListingFault.TheVariants as kind
use Rattle.table_audit.specs.declared.errors.EntryFault.{EntryFault}
use Rattle.table_audit.specs.declared.errors.EntryFault.TheVariants as fault
use Rattle.table_audit.specs.declared.errors.FamilyKind.{FamilyKind}
use Rattle.table_audit.specs.declared.errors.FamilyKind.TheVariants as family
use Rattle.audit_cli.specs.declared.refusal.Refusal.{Refusal}
use Rattle.audit_cli.specs.declared.refusal.Refusal.TheVariants as refusal
use Rattle.thumb_model.specs.Listing.{ListingLine}
use Rattle.thumb_model.specs.Layout.{Fault}
use Rattle.rule_table.specs.Table.{Table}
use Rattle.rule_table.specs.Refused.{IsText, IsRefused as IsRefusedTable}
use Rattle.table_audit.specs.declared.errors.AuditError.TheVariants as audit
use Rattle.table_audit.specs.Acceptance.{TableVerdict, IsAccepted}
use Rattle.listing_parser.specs.Parsing.{IsRefused}
use Rattle.label_layout.specs.Refusals.{first_fault}
use Rattle.thumb_assembler.specs.declared.errors.ImageError.TheVariants as image
use Rattle.thumb_assembler.specs.Bytes.{IsRefusal}

-- The lines that are printed, those of refusals included.

-- a line of words, with a newline
abbrev pub printed : List ℕ → List ℕ
printed words = words ++ 10 ∷ []

-- ` ` and a number
abbrev pub and_number : ℕ → List ℕ
and_number n = 32 ∷ decimal n

-- `instructions BEFORE AFTER`
abbrev pub instructions_line : ℕ → ℕ → List ℕ
instructions_line before after = printed (codes "instructions" ++ and_number before ++ and_number after)

-- `replaced R` and an `instructions` line
abbrev pub report_of : ℕ → ℕ → ℕ → List ℕ
report_of replaced before after = printed (codes "replaced" ++ and_number replaced) ++ instructions_line before after

-- `tidied N` and an `instructions` line
abbrev pub tidied_report : ℕ → ℕ → ℕ → List ℕ
tidied_report changes before after = printed (codes "tidied" ++ and_number changes) ++ instructions_line before after

-- `image BYTES`
abbrev pub image_line : ℕ → List ℕ
image_line bytes = printed (codes "image" ++ and_number bytes)

-- `entries E open O`
abbrev pub entries_line : ℕ → ℕ → List ℕ
entries_line entries opens = printed (codes "entries" ++ and_number entries ++ codes " open" ++ and_number opens)

-- `entries E open O states S`
abbrev pub learnt_line : ℕ → ℕ → ℕ → List ℕ
learnt_line entries opens states = printed (codes "entries" ++ and_number entries ++ codes " open" ++ and_number opens ++ codes " states" ++ and_number states)

-- `demo N`
abbrev pub demo_line : ℕ → List ℕ
demo_line windows = printed (codes "demo" ++ and_number windows)

-- `variables V clauses C lines P`
abbrev pub formula_line : ℕ → ℕ → ℕ → List ℕ
formula_line variables clauses lines = printed (codes "variables" ++ and_number variables ++ codes " clauses" ++ and_number clauses ++ codes " lines" ++ and_number lines)

-- `lines BEFORE AFTER`
abbrev pub trimmed_line : ℕ → ℕ → List ℕ
trimmed_line before after = printed (codes "lines" ++ and_number before ++ and_number after)

-- `families F lines P`
abbrev pub families_line : ℕ → ℕ → List ℕ
families_line families lines = printed (codes "families" ++ and_number families ++ codes " lines" ++ and_number lines)

-- ---- refusals ----

abbrev pub kind_number : ListingFault → ℕ
kind_number kind.Shape = 1
kind_number kind.Twice = 2
kind_number kind.Target = 3
kind_number kind.Limit = 6

-- `1`, `2 LINE`, `3`, `4 SEQUENCE` and `5 SEQUENCE`, each after a blank
abbrev pub fault_words : EntryFault → List ℕ
fault_words fault.Sides = codes " 1"
fault_words (fault.Proof line) = codes " 2" ++ and_number line
fault_words fault.Unfinished = codes " 3"
fault_words (fault.Untold sequence) = codes " 4" ++ and_number sequence
fault_words (fault.Open sequence) = codes " 5" ++ and_number sequence

-- `1`, `2 LINE` and `3`, each after a blank
abbrev pub family_words : FamilyKind → List ℕ
family_words family.Symbol = codes " 1"
family_words (family.Proof line) = codes " 2" ++ and_number line
family_words family.Unfinished = codes " 3"

-- `refused table LINE`, `refused states PLACE`, `refused wide COUNT`, `refused entry NUMBER KIND ..`, `refused family NUMBER KIND ..`, `refused number`,
-- `refused listing LINE KIND`, `refused listing LINE 4 DISTANCE`, `refused listing LINE 5 ADDRESS`, `refused label`, `refused address LINE`,
-- `refused inside LINE`, `refused full BYTES`, `refused costs LINE`, `refused symbol 1`, `refused symbol 2 VALUE` and `refused symbol 3 BUDGET`
abbrev pub refusal_line : Refusal → List ℕ
refusal_line (refusal.Table line) = printed (codes "refused table" ++ and_number line)
refusal_line (refusal.States place) = printed (codes "refused states" ++ and_number place)
refusal_line (refusal.Wide count) = printed (codes "refused wide" ++ and_number count)
refusal_line (refusal.Entry number k) = printed (codes "refused entry" ++ and_number number ++ fault_words k)
refusal_line (refusal.Family number k) = printed (codes "refused family" ++ and_number number ++ family_words k)
refusal_line refusal.Number = printed (codes "refused number")
refusal_line (refusal.Listing line k) = printed (codes "refused listing" ++ and_number line ++ and_number (kind_number k))
refusal_line (refusal.Range line distance) = printed (codes "refused listing" ++ and_number line ++ codes " 4 " ++ signed_decimal distance)
refusal_line (refusal.Align line address) = printed (codes "refused listing" ++ and_number line ++ codes " 5" ++ and_number address)
refusal_line refusal.Label = printed (codes "refused label")
refusal_line (refusal.Address line) = printed (codes "refused address" ++ and_number line)
refusal_line (refusal.Inside line) = printed (codes "refused inside" ++ and_number line)
refusal_line (refusal.Full bytes) = printed (codes "refused full" ++ and_number bytes)
refusal_line (refusal.Costs line) = printed (codes "refused costs" ++ and_number line)
refusal_line refusal.Symbol = printed (codes "refused symbol 1")
refusal_line (refusal.Differ value) = printed (codes "refused symbol 2" ++ and_number value)
refusal_line (refusal.Spent budget) = printed (codes "refused symbol 3" ++ and_number budget)

-- the refusal of a line that can't be laid out
abbrev pub unlaid_refusal : ℕ → layout.Fault → Refusal
unlaid_refusal line (layout.Range distance) = refusal.Range line distance
unlaid_refusal line (layout.Align address) = refusal.Align line address

-- Why texts are refused in the steps that commands share: a table's text is read and audited, a listing's text is read, its lines are laid out and made an image.

-- a text is refused at the least n such that no table's text begins with the first n lines
pub data IsUnlisted (text : List ℕ) : Refusal → Type 0 where
  unlisted : (line : ℕ) → IsRefusedTable text line → IsUnlisted text (refusal.Table line)

-- a text is no table, or it is one that the audit refuses, for the first cause that it finds
pub data IsUnaudited (text : List ℕ) : Refusal → Type 0 where
  no_table : (r : Refusal) → IsUnlisted text r → IsUnaudited text r
  other_state : (t : Table) → IsText text t → (place : ℕ) → TableVerdict t (Some (audit.States place)) → IsUnaudited text (refusal.States place)
  too_wide : (t : Table) → IsText text t → (count : ℕ) → TableVerdict t (Some (audit.Wide count)) → IsUnaudited text (refusal.Wide count)
  bad_entry : (t : Table) → IsText text t → (number : ℕ) (k : EntryFault) → TableVerdict t (Some (audit.Entry number k)) → IsUnaudited text (refusal.Entry number k)
  bad_family : (t : Table) → IsText text t → (number : ℕ) (k : FamilyKind) → TableVerdict t (Some (audit.Family number k)) → IsUnaudited text (refusal.Family number k)

-- a text is refused at the first line that makes it no listing
pub data IsUnread (text : List ℕ) : Refusal → Type 0 where
  unread : (line : ℕ) (k : ListingFault) → IsRefused text line k → IsUnread text (refusal.Listing line k)

-- lines are refused at the first one that can't be laid out from a base
pub data IsUnlaid (base : ℕ) (lines : List ListingLine) : Refusal → Type 0 where
  unlaid : (line : ℕ) (fault : Fault) → first_fault base lines ≡ Some (line, fault) → IsUnlaid base lines (unlaid_refusal line fault)

-- lines have no image because of the first one that mentions in `b`, `bl` or `.word` a name with no address, or that sets an address inside the image
pub data HasNoImage (base : ℕ) (lines : List ListingLine) : Refusal → Type 0 where
  no_address : (line : ℕ) → IsRefusal base lines (image.NoAddress line) → HasNoImage base lines (refusal.Address line)
  inside : (line : ℕ) → IsRefusal base lines (image.Inside line) → HasNoImage base lines (refusal.Inside line)

-- the text is that of a table that the audit accepts
pub record IsAudited (text : List ℕ) (t : Table) : Type 0 where
  pub is : IsText text t
  pub accepted : IsAccepted t
