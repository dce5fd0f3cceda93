-- When each error of the learner is returned, and how many steps learning takes at most.
use Rattle.std.specs.Prelude.{ℕ, ◌≡◌, ◌<◌, ◌≤◌, ◌+◌, ◌*◌, List, length}
use Rattle.rule_table.specs.Views.{table_of}
use Rattle.table_learn.specs.declared.errors.LearnError.{LearnError}
use Rattle.table_learn.specs.declared.errors.LearnError.TheVariants.{Wide, Full, Memory}
use Rattle.table_learn.specs.Learnt.{Settings, Window, IsFull}
use Rattle.table_audit.specs.Acceptance.{widest, width_of}

-- what each error says
abbrev pub FailsAs : Settings → List Window → LearnError → Type 0
FailsAs s windows (Wide count) = (count ≡ width_of s) × (widest < count)
FailsAs s windows (Full t bytes) = IsFull s windows (table_of t) bytes
FailsAs s windows Memory = Unit {0}

-- ---- steps ----

-- the most steps with so many windows and listed states: runs on states, and decisions and conflicts of the solver, which has at most 200,000 variables
abbrev pub learn_cost : Settings → ℕ → ℕ → ℕ
learn_cost s windows states = 4 * (windows * (width_of s * (states * s.left))) + windows * (width_of s * ((s.budget + 1) * 200001))

-- the steps before an error: none for `Wide`, and for `Full` no more than learning the table that it carries may take
abbrev pub SpendsAs : Settings → ℕ → ℕ → ℕ → LearnError → Type 0
SpendsAs s windows before after (Wide count) = after ≡ before
SpendsAs s windows before after (Full t bytes) = after ≤ before + learn_cost s windows (length (table_of t).states)
SpendsAs s windows before after Memory = Unit {0}
