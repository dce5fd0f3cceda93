-- What trying a sequence below a window finds.
use Rattle.std.specs.Prelude.{ℕ, ◌≡◌, true, false, List, All, map}
use Rattle.thumb_instr.specs.declared.instr.Instr.{Instr}
use Rattle.window_exec.specs.State.{seen, Seen}
use Rattle.lrat_check.specs.Text.{content_of, IsLine}
use Rattle.bit_blast.specs.Differences.{sides_formula}
use Rattle.rule_table.specs.Table.{IsState}
use Rattle.table_learn.specs.declared.window.Window as code
use Rattle.table_learn.specs.declared.trying.Finding.{Finding}
use Rattle.table_learn.specs.declared.trying.Finding.TheVariants.{Told, State, Proof, Log}
use Rattle.table_learn.specs.Learnt.{Settings, Window, IsRefutation, IsSpentSearch}
use Rattle.table_learn.specs.Tellings.{told, tells_apart}
use Rattle.table_learn.specs.Searching.{formula_for}

abbrev pub window_in : code.Window → Window
window_in w = record { seq = w.left; mask = w.mask.items.bits }

-- the solver's answer: a state distinguishes the sequence from the window, or a log proves that none does, or a log spends the budget
abbrev pub IsAnswer : ℕ → code.Window → List Instr → Finding → Type 0
IsAnswer budget w seq Told = ⊥
IsAnswer budget w seq (State s) = (tells_apart w.left seq w.mask.items.bits (seen s) ≡ true) × IsState (seen s)
IsAnswer budget w seq (Proof log) = IsRefutation budget (sides_formula w.left seq w.mask.items.bits w.k) (map content_of log.items) × All IsLine (map content_of log.items)
IsAnswer budget w seq (Log log) = IsSpentSearch budget (sides_formula w.left seq w.mask.items.bits w.k) (map content_of log.items) × All IsLine (map content_of log.items)

-- the result of trying: a listed state distinguishes the sequence; or none does, and this is the solver's answer
abbrev pub IsFinding : Settings → List Seen → Window → List Instr → Finding → Type 0
IsFinding s states w seq Told = told states w.seq seq w.mask ≡ true
IsFinding s states w seq (State x) = (told states w.seq seq w.mask ≡ false) × (tells_apart w.seq seq w.mask (seen x) ≡ true) × IsState (seen x)
IsFinding s states w seq (Proof log) = IsRefutation s.budget (formula_for s w seq) (map content_of log.items) × All IsLine (map content_of log.items)
IsFinding s states w seq (Log log) = (told states w.seq seq w.mask ≡ false) × IsSpentSearch s.budget (formula_for s w seq) (map content_of log.items) × All IsLine (map content_of log.items)
