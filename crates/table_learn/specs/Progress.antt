-- The invariant of the learner after some windows, and the steps of one more.
use Rattle.std.specs.Prelude.{ℕ, ◌≡◌, ◌≤◌, ◌+◌, ◌*◌, List, [], Some, All, length, map, slice_get, take}
use Rattle.window_exec.specs.State.{seen, Seen}
use Rattle.fingerprints.specs.Seeded.{seeded_states}
use Rattle.rule_table.specs.Table.{Rule, Table, IsState}
use Rattle.rule_table.specs.Views.{rule_of}
use Rattle.table_learn.specs.declared.learning.Learner.{Learner}
use Rattle.table_learn.specs.Learnt.{Settings, Window, learnt_from, AreEarned, text_length}
use Rattle.table_audit.specs.Acceptance.{width_of}
use Rattle.table_learn.specs.Fitness.{IsFit}
use Rattle.table_learn.specs.Keeping.{AreKept}

-- a table with these settings, and no families
abbrev pub table_with : Settings → List Seen → List Rule → Table
table_with s states rules = record { header = s; states = states; rules = rules; families = [] }

-- what holds of the states and entries that were learnt from some windows
pub record Progress (s : Settings) (windows : List Window) (states : List Seen) (rules : List Rule) : Type 0 where
  pub long : 64 ≤ length states
  pub begins : take 64 states ≡ seeded_states s.seed
  pub valid : All IsState states
  pub matched : map learnt_from rules ≡ windows
  pub fits : (n : ℕ) (e : Rule) → slice_get rules n ≡ Some e → IsFit s states states e
  pub earned : AreEarned s windows states

abbrev pub states_in : Learner → List Seen
states_in l = map seen l.states.items

abbrev pub rules_in : Learner → List Rule
rules_in l = map rule_of l.entries.items

-- the learner has such states and entries, the length of their table's text, and tables of outcomes of the first state
pub record HasLearnt (s : Settings) (windows : List Window) (l : Learner) : Type 0 where
  pub progress : Progress s windows (states_in l) (rules_in l)
  pub bytes : l.bytes ≡ text_length (table_with s (states_in l) (rules_in l))
  pub kept : AreKept s.pool (states_in l) l.tables

-- the most steps of a window: of its outcomes and its search, if so many states are listed at the end; and of the dropping after it, with so many entries
abbrev pub search_cost : Settings → ℕ → ℕ
search_cost s states = width_of s * (1 + states * (s.left + s.left) + (s.budget + 1) * 200001)

abbrev pub drop_cost : Settings → ℕ → ℕ → ℕ
drop_cost s entries found = entries * (width_of s * (found * (s.left + s.left)))
