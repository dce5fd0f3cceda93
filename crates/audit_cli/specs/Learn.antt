-- The outcome of `learn`: the table that is learnt from a listing's windows is kept, or the reason why none is learnt.
use Rattle.std.specs.Prelude.{◌≡◌, ◌<◌, ◌≤◌, ℕ, List, [], ◌∷◌, Some, length, map}
use Rattle.thumb_model.specs.Listing.{ListingLine}
use Rattle.listing_parser.specs.Parsing.{IsListing}
use Rattle.seq_enum.specs.Costs.{IsCostText, IsRefusedCosts}
use Rattle.window_harvest.specs.Harvest.{Pair, Limits, AreHarvest}
use Rattle.rule_table.specs.Table.{Table, IsTable}
use Rattle.rule_table.specs.Text.{text_of}
use Rattle.ascii_scan.specs.Lines.{text_limit}
use Rattle.table_learn.specs.Learnt.{Settings, Window, Learnt, IsFull, text_length}
use Rattle.table_audit.specs.Acceptance.{widest, width_of}
use Rattle.command_runs.specs.Plans.{Outcome, Refuses, Does}
use Rattle.audit_cli.specs.declared.refusal.Refusal.{Refusal}
use Rattle.audit_cli.specs.declared.refusal.Refusal.TheVariants as refusal
use Rattle.audit_cli.specs.Printed.{refusal_line, learnt_line, IsUnread}
use Rattle.audit_cli.specs.Tables.{opens_of}

-- the name that a table is kept under, and the settings that it is learnt with
pub record LearnArguments : Type 0 where
  pub out : List ℕ
  pub settings : Settings

abbrev pub limits_of : Settings → Limits
limits_of s = record { regs = s.regs; left = s.left; pool = s.pool }

-- a listing's window, as the learner takes it
abbrev pub window_for : Pair → Window
window_for pair = record { seq = pair.seq; mask = pair.mask }

-- the windows of lines, each with the items that are live after it, in order of first appearance
pub record AreWindowsOf (s : Settings) (lines : List ListingLine) (windows : List Window) : Type 0 where
  pub pairs : List Pair
  pub harvest : AreHarvest (limits_of s) lines pairs
  pub same : windows ≡ map window_for pairs

-- the table's text is kept, and its counts are printed
abbrev pub kept_table : List ℕ → Table → Outcome
kept_table out t = Does ((out, text_of t) ∷ []) (learnt_line (length t.rules) (opens_of t) (length t.states))

-- no table is learnt from lines: more than 5,000,000 sequences may be below the longest windows, or the table of the first windows has a text that is too long
pub data IsUnlearnt (s : Settings) (lines : List ListingLine) : Refusal → Type 0 where
  too_wide : widest < width_of s → IsUnlearnt s lines (refusal.Wide (width_of s))
  too_long : (windows : List Window) → AreWindowsOf s lines windows → (t : Table) (bytes : ℕ) → IsFull s windows t bytes → IsUnlearnt s lines (refusal.Full bytes)

-- a table is learnt from all windows of lines, and its text is not too long
pub record IsLearnt (s : Settings) (lines : List ListingLine) (t : Table) : Type 0 where
  pub windows : List Window
  pub are : AreWindowsOf s lines windows
  pub learnt : Learnt s windows t
  pub valid : IsTable t
  pub fits : text_length t ≤ text_limit

-- the outcome for the lines of a listing: no table is learnt from them, or one is learnt and kept
pub data LinesLearn (to : LearnArguments) (lines : List ListingLine) : Outcome → Type 0 where
  unlearnt : (r : Refusal) → IsUnlearnt to.settings lines r → LinesLearn to lines (Refuses (refusal_line r))
  learnt : (t : Table) → IsLearnt to.settings lines t → LinesLearn to lines (kept_table to.out t)

-- the outcome for a text: it is no listing, or that of its lines
pub data Learns (to : LearnArguments) (text : List ℕ) : Outcome → Type 0 where
  unread : (r : Refusal) → IsUnread text r → Learns to text (Refuses (refusal_line r))
  read : (lines : List ListingLine) → IsListing text lines → (o : Outcome) → LinesLearn to lines o → Learns to text o

-- `learn` takes one text
abbrev pub LearnComesTo : LearnArguments → List (List ℕ) → Outcome → Type 0
LearnComesTo to texts o = (text : List ℕ) × (texts ≡ text ∷ []) × Learns to text o

-- ---- by costs ----

-- the arguments with these costs, which only a table of version 4 has
abbrev pub priced : List ℕ → LearnArguments → LearnArguments
priced costs to = record to { settings = record to.settings { version = 4; costs = Some costs } }

-- the outcome if a text of costs is refused at a line
abbrev pub unpriced_at : ℕ → Outcome
unpriced_at line = Refuses (refusal_line (refusal.Costs line))

-- the outcome for the texts of a listing and of costs: the costs are refused, at the least n such that no text of costs begins with the first n lines; or
-- that of the listing's text with these costs
pub data LearnsByCosts (to : LearnArguments) (text costs : List ℕ) : Outcome → Type 0 where
  unpriced : (line : ℕ) → IsRefusedCosts costs line → LearnsByCosts to text costs (unpriced_at line)
  priced_so : (cs : List ℕ) → IsCostText costs cs → (o : Outcome) → Learns (priced cs to) text o → LearnsByCosts to text costs o

-- `learn --costs` takes two texts
abbrev pub LearnByCostsComesTo : LearnArguments → List (List ℕ) → Outcome → Type 0
LearnByCostsComesTo to texts o = (text : List ℕ) × (costs : List ℕ) × (texts ≡ text ∷ costs ∷ []) × LearnsByCosts to text costs o
