-- What dropping open numbers requires of entries, how much shorter it makes them, and how many steps it takes.
use Rattle.std.specs.Prelude.{ℕ, ◌≡◌, ◌≤◌, ◌+◌, ◌*◌, List, length, sum_by}
use Rattle.window_exec.specs.State.{Seen}
use Rattle.thumb_model.specs.Effect.{AreOver}
use Rattle.rule_table.specs.Table.{Rule}
use Rattle.table_audit.specs.Shorter.{IsCanonicalSide}
use Rattle.table_learn.specs.Learnt.{Settings}
use Rattle.table_learn.specs.Fitness.{without_told}
use Rattle.table_learn.specs.Lengths.{opens_length}

-- the left side is canonical, of instructions over r0 to r3, and no shorter than the right side
pub record IsSided (e : Rule) : Type 0 where
  pub canonical : IsCanonicalSide e.left
  pub over : AreOver 4 e.left
  pub no_longer : length e.right ≤ length e.left

-- the entry after is the one before without the open numbers that the found states distinguish, and has so many bytes fewer
pub record Dropped (s : Settings) (found : List Seen) (before after : Rule) (freed : ℕ) : Type 0 where
  pub rest : after ≡ without_told s found before
  pub less : opens_length after.opens + freed ≡ opens_length before.opens

-- the steps of running the left side and the open sequences of all entries on so many states, at most
abbrev pub runs_on : ℕ → List Rule → ℕ
runs_on found rules = sum_by (λ (e : Rule). length e.opens * (found * (length e.left + length e.left))) rules
