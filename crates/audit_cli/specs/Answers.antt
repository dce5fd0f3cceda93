-- What the functions that commands share return: the contracts of `steps`, a case for Ok and one for a refusal.
use Rattle.std.specs.Prelude.{◌≡◌, ◌≤◌, ℕ, List, Result, Ok, Err}
use Rattle.thumb_model.specs.Listing.{ListingLine}
use Rattle.thumb_model.specs.Layout.{Layable}
use Rattle.listing_parser.specs.Parsing.{IsListing}
use Rattle.label_layout.specs.Addresses.{Addresses, AreAddresses}
use Rattle.rule_table.specs.Table.{Table}
use Rattle.rule_table.specs.Refused.{IsText}
use Rattle.table_learn.specs.Learnt.{Settings}
use Rattle.thumb_assembler.specs.Runs.{IsAssembled}
use Rattle.audit_cli.specs.declared.refusal.Refusal.{Refusal}
use Rattle.audit_cli.specs.Printed.{IsUnlisted, IsUnaudited, IsUnread, IsUnlaid, HasNoImage, IsAudited}
use Rattle.audit_cli.specs.Learn.{IsLearnt, IsUnlearnt}
use Rattle.audit_cli.specs.Demo.{demo_text}

-- the result of reading a table's text, and of auditing it
abbrev pub ReadsTable : List ℕ → Result Table Refusal → Type 0
ReadsTable text (Ok t) = IsText text t
ReadsTable text (Err r) = IsUnlisted text r

abbrev pub AuditsTable : List ℕ → Result Table Refusal → Type 0
AuditsTable text (Ok t) = IsAudited text t
AuditsTable text (Err r) = IsUnaudited text r

-- the result of reading a listing's text
abbrev pub ReadsListing : List ℕ → Result (List ListingLine) Refusal → Type 0
ReadsListing text (Ok lines) = IsListing text lines
ReadsListing text (Err r) = IsUnread text r

-- the result of making an image of lines
abbrev pub MakesImage : ℕ → List ListingLine → Result (List ℕ) Refusal → Type 0
MakesImage base lines (Ok bytes) = IsAssembled base lines bytes
MakesImage base lines (Err r) = HasNoImage base lines r

-- the result of laying lines out
abbrev pub LaysOut : ℕ → List ListingLine → Result Addresses Refusal → Type 0
LaysOut base lines (Ok laid) = AreAddresses lines laid × (laid.base ≡ base) × Layable base lines
LaysOut base lines (Err r) = IsUnlaid base lines r

-- the result of learning from lines
abbrev pub Teach : Settings → List ListingLine → Result Table Refusal → Type 0
Teach s lines (Ok t) = IsLearnt s lines t
Teach s lines (Err r) = IsUnlearnt s lines r

-- the lines are the listing that `demo` makes of some number of windows
abbrev pub IsDemoListing : List ListingLine → Type 0
IsDemoListing lines = (n : ℕ) × (n ≤ 20000) × IsListing (demo_text n) lines
