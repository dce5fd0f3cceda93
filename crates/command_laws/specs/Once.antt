-- Texts determine the outcome of a request, except for what the solver's searches find where a table is learnt or a family added.
use Rattle.std.specs.Prelude.{◌≡◌, ◌≤◌, ◌⊎◌, ℕ, List, [], ◌∷◌}
use Rattle.thumb_model.specs.Listing.{ListingLine}
use Rattle.listing_parser.specs.Parsing.{IsListing}
use Rattle.rule_table.specs.Table.{Rule, Family, Table}
use Rattle.seq_enum.specs.Costs.{IsCostText}
use Rattle.table_audit.specs.Acceptance.{widest, width_of}
use Rattle.command_line.specs.CommandLine.{Request, rewrite, audit, learn, export, trace, demo, upgrade, trim, tidy, generalise}
use Rattle.command_runs.specs.Plans.{Outcome}
use Rattle.audit_cli.specs.Learn.{LearnArguments, LinesLearn, LearnComesTo, LearnByCostsComesTo, priced}
use Rattle.audit_cli.specs.Demo.{IsDemo}
use Rattle.audit_cli.specs.Printed.{IsAudited}
use Rattle.audit_cli.specs.Generalise.{IsRaisableFor, Generalises, GeneraliseComesTo}
use Rattle.audit_cli.specs.Peep.{plan_of}

-- texts have at most one outcome
abbrev pub IsOne : (List (List ℕ) → Outcome → Type 0) → Type 0
IsOne comes = (texts : List (List ℕ)) (o p : Outcome) → comes texts o → comes texts p → o ≡ p

-- the request asks the solver: a table is learnt, or a family added
abbrev pub AsksSolver : Request → Type 0
AsksSolver (rewrite table listing out image base) = ⊥
AsksSolver (audit table) = ⊥
AsksSolver (learn listing out costs settings) = Unit {0}
AsksSolver (export table entry cnf lrat) = ⊥
AsksSolver (trace listing label steps) = ⊥
AsksSolver (demo windows) = Unit {0}
AsksSolver (upgrade table out) = ⊥
AsksSolver (trim table out) = ⊥
AsksSolver (tidy listing out base) = ⊥
AsksSolver (generalise table entry number low high out) = Unit {0}

-- texts have at most one outcome for each request that doesn't ask the solver
abbrev pub TextsComeToOne : Type 0
TextsComeToOne = (r : Request) → (AsksSolver r → ⊥) → IsOne (plan_of r).comes

-- both outcomes are of learning from the lines of the same listing: a table is kept, or its text is too long
pub record AreOfOneListing (to : LearnArguments) (text : List ℕ) (o p : Outcome) : Type 0 where
  pub lines : List ListingLine
  pub listing : IsListing text lines
  pub narrow : width_of to.settings ≤ widest
  pub first : LinesLearn to lines o
  pub second : LinesLearn to lines p

-- the same for `learn`, except for which table is learnt
abbrev pub LearningIsOneButForTables : Type 0
LearningIsOneButForTables = (to : LearnArguments) (texts : List (List ℕ)) (o p : Outcome) → LearnComesTo to texts o → LearnComesTo to texts p
    → (o ≡ p) ⊎ ((text : List ℕ) × (texts ≡ text ∷ []) × AreOfOneListing to text o p)

-- the same for `learn --costs`, with the costs that its text gives
abbrev pub LearningByCostsIsOneButForTables : Type 0
LearningByCostsIsOneButForTables = (to : LearnArguments) (texts : List (List ℕ)) (o p : Outcome) → LearnByCostsComesTo to texts o → LearnByCostsComesTo to texts p
    → (o ≡ p) ⊎ ((text costs cs : List ℕ) × (texts ≡ text ∷ costs ∷ []) × IsCostText costs cs × AreOfOneListing (priced cs to) text o p)

-- for `demo`: the number of windows and the table determine what is printed
abbrev pub DemosOfOneTableAreOne : Type 0
DemosOfOneTableAreOne = (n : ℕ) (told other : List ℕ) (h : IsDemo n told) (k : IsDemo n other) → h.table ≡ k.table → told ≡ other

-- both outcomes are of the same accepted table, which has an entry whose number can be raised in this way, so that the solver was asked for the family
pub record AreOfOneFamily (out : List ℕ) (f : Family) (texts : List (List ℕ)) (o p : Outcome) : Type 0 where
  pub text : List ℕ
  pub is_text : texts ≡ text ∷ []
  pub table : Table
  pub audited : IsAudited text table
  pub entry : Rule
  pub raisable : IsRaisableFor table f entry
  pub first : Generalises out f text o
  pub second : Generalises out f text p

-- the same for `generalise`, except for what the solver then finds
abbrev pub GeneralisingIsOneButForSearches : Type 0
GeneralisingIsOneButForSearches =
    (out : List ℕ) (f : Family) (texts : List (List ℕ)) (o p : Outcome) → GeneraliseComesTo out f texts o → GeneraliseComesTo out f texts p → (o ≡ p) ⊎ AreOfOneFamily out f texts o p
