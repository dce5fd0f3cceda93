-- The outcome of `demo`: a listing is made, a table learnt from its windows, the listing rewritten by that table, and its image made.
use Rattle.std.specs.Prelude.{◌≡◌, ℕ, zero, suc, ◌%◌, ◌==◌, List, [], ◌∷◌, ◌++◌, None, length, codes, if◌then◌else◌}
use Rattle.std.specs.Fmt.{decimal}
use Rattle.thumb_model.specs.Listing.{ListingLine}
use Rattle.rule_model.specs.Rewriting.{Replacement, AreRewritten}
use Rattle.listing_parser.specs.Parsing.{IsListing}
use Rattle.rule_table.specs.Header.{learnt_header}
use Rattle.rule_table.specs.Table.{Table}
use Rattle.table_learn.specs.Learnt.{Settings, Window, IsFull}
use Rattle.window_rewrite.specs.TableRewriting.{setting}
use Rattle.thumb_assembler.specs.Runs.{IsAssembled}
use Rattle.command_runs.specs.Plans.{Outcome, Refuses, Does}
use Rattle.audit_cli.specs.declared.refusal.Refusal.TheVariants as refusal
use Rattle.audit_cli.specs.Printed.{refusal_line, demo_line, learnt_line, report_of, image_line}
use Rattle.audit_cli.specs.Tables.{opens_of}
use Rattle.audit_cli.specs.Learn.{AreWindowsOf, IsLearnt}
use Rattle.audit_cli.specs.Rewrite.{instruction_count}

-- ---- the listing ----

-- an instruction's line: a tab, its text and a newline
abbrev pub own : List ℕ → List ℕ
own text = 9 ∷ (text ++ 10 ∷ [])

-- r0 to r7
abbrev pub register : ℕ → List ℕ
register i = 114 ∷ decimal (i % 8)

-- two instructions on a register, by which its low byte is extracted, it is negated, or it is copied to itself twice
abbrev pub pair : ℕ → List ℕ → List ℕ
pair kind d =
    if kind == 0 then own (codes "lsls " ++ (d ++ (codes ", " ++ (d ++ codes ", #24")))) ++ own (codes "lsrs " ++ (d ++ (codes ", " ++ (d ++ codes ", #24"))))
    else if kind == 1 then own (codes "mvns " ++ (d ++ (codes ", " ++ d))) ++ own (codes "adds " ++ (d ++ codes ", #1"))
    else own (codes "mov " ++ (d ++ (codes ", " ++ d))) ++ own (codes "mov " ++ (d ++ (codes ", " ++ d)))

-- the window of number i, and what ends it
abbrev pub window_text : ℕ → List ℕ
window_text i = pair (i % 3) (register i) ++ own (codes "nop")

-- the windows of numbers 0 to n - 1
abbrev pub windows_text : ℕ → List ℕ
windows_text zero = []
windows_text (suc n) = windows_text n ++ window_text n

abbrev pub demo_text : ℕ → List ℕ
demo_text n = codes "demo:" ++ 10 ∷ (windows_text n ++ own (codes "bx lr"))

-- ---- the outcome ----

-- one register, two instructions, a budget of 20,000 clauses, the seed 42, no scratch register, the pool of 1 and 24, and no costs
abbrev pub demo_settings : Settings
demo_settings = learnt_header 1 2 20000 42 0 (1 ∷ 24 ∷ []) None

-- lines are rewritten by a table, laid out from address 0 on, and made an image; and the lines that report this
pub record IsRewritingTold (t : Table) (given : List ListingLine) (told : List ℕ) : Type 0 where
  pub replacements : List Replacement
  pub lines : List ListingLine
  pub rewritten : AreRewritten (setting 0 t) given replacements lines
  pub bytes : List ℕ
  pub image : IsAssembled 0 lines bytes
  pub are_told : told ≡ report_of (length replacements) (instruction_count given) (instruction_count lines) ++ image_line (length bytes)

-- the listing of so many windows, the table that is learnt from it, and its rewriting by that table; and the lines that report all this
pub record IsDemo (n : ℕ) (told : List ℕ) : Type 0 where
  pub lines : List ListingLine
  pub listing : IsListing (demo_text n) lines
  pub table : Table
  pub learnt : IsLearnt demo_settings lines table
  pub rewriting : List ℕ
  pub rewritten : IsRewritingTold table lines rewriting
  pub are_told : told ≡ demo_line n ++ (learnt_line (length table.rules) (opens_of table) (length table.states) ++ rewriting)

-- the outcome for so many windows: nothing is kept and the report is printed, or the table of the first windows has a text that is too long
pub data DemoComesTo (n : ℕ) : Outcome → Type 0 where
  shown : (told : List ℕ) → IsDemo n told → DemoComesTo n (Does [] told)
  too_long : (lines : List ListingLine) → IsListing (demo_text n) lines → (windows : List Window) → AreWindowsOf demo_settings lines windows
      → (t : Table) (bytes : ℕ) → IsFull demo_settings windows t bytes → DemoComesTo n (Refuses (refusal_line (refusal.Full bytes)))
