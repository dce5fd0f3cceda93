-- The header of a table, which its first lines give: the record, and the lines in order, each with its word, its limits and the first version that has
-- it. A further line needs a field of the record and a row in each list here.
use Rattle.std.specs.Prelude.{◌≡◌, ◌≤◌, ℕ, Bool, true, false, List, [], ◌∷◌, codes, nat_le, Option, None, Some, IfSome, IsSome, if◌then◌else◌}
use Rattle.seq_enum.specs.Alphabet.{is_pool}
use Rattle.seq_enum.specs.Costs.{AreCosts}
use Rattle.rule_table.specs.declared.header.Field.{Field}
use Rattle.rule_table.specs.declared.header.Field.TheVariants.{Version, Regs, Left, Seed, Budget, Scratch}
use Rattle.rule_table.specs.declared.header.HeaderLine.{HeaderLine}
use Rattle.rule_table.specs.declared.header.HeaderLine.TheVariants.{Number, Pool, Costs}

pub record Header : Type 0 where
  pub version : ℕ
  -- the most registers and the most instructions of a left side
  pub regs : ℕ
  pub left : ℕ
  -- the seed of the first states
  pub seed : ℕ
  -- how many clauses the solver may learn in a query
  pub budget : ℕ
  -- the numbers of the alphabet
  pub pool : List ℕ
  -- how many registers a right side may name that its left side doesn't
  pub scratch : ℕ
  -- what instructions cost, a number for each mnemonic; without these each costs 1
  pub costs : Option (List ℕ)

-- the lines of the last version in order
abbrev pub heads : List HeaderLine
heads = Number Version ∷ Number Regs ∷ Number Left ∷ Number Seed ∷ Number Budget ∷ Pool ∷ Number Scratch ∷ Costs ∷ []

-- the first version that has a line, and whether a version has it
abbrev pub since : HeaderLine → ℕ
since (Number Scratch) = 2
since Costs = 4
since line = 1

abbrev pub has_line : ℕ → HeaderLine → Bool
has_line version line = nat_le (since line) version

-- whether a version has families
abbrev pub has_families : ℕ → Bool
has_families version = nat_le 3 version

-- the given lines, from the first one on that the version has
abbrev pub due_in : ℕ → List HeaderLine → List HeaderLine
due_in version [] = []
due_in version (line ∷ lines) = if has_line version line then line ∷ lines else due_in version lines

abbrev pub number_in : Header → Field → ℕ
number_in h Version = h.version
number_in h Regs = h.regs
number_in h Left = h.left
number_in h Seed = h.seed
number_in h Budget = h.budget
number_in h Scratch = h.scratch

abbrev pub with_number : Header → Field → ℕ → Header
with_number h Version n = record h { version = n }
with_number h Regs n = record h { regs = n }
with_number h Left n = record h { left = n }
with_number h Seed n = record h { seed = n }
with_number h Budget n = record h { budget = n }
with_number h Scratch n = record h { scratch = n }

abbrev pub is_same : Field → Field → Bool
is_same Version Version = true
is_same Regs Regs = true
is_same Left Left = true
is_same Seed Seed = true
is_same Budget Budget = true
is_same Scratch Scratch = true
is_same a b = false

-- what the line of a number begins with, its blank included, and the least and the greatest number that it may have
pub record NumberLine : Type 0 where
  pub word : List ℕ
  pub least : ℕ
  pub greatest : ℕ

abbrev pub row : Field → NumberLine
row Version = record { word = codes "peep "; least = 1; greatest = 4 }
row Regs = record { word = codes "regs "; least = 1; greatest = 4 }
row Left = record { word = codes "left "; least = 1; greatest = 5 }
row Seed = record { word = codes "seed "; least = 0; greatest = 4294967295 }
row Budget = record { word = codes "budget "; least = 1; greatest = 1000000 }
row Scratch = record { word = codes "scratch "; least = 0; greatest = 1 }

abbrev pub IsWithin : Field → ℕ → Type 0
IsWithin field n = ((row field).least ≤ n) × (n ≤ (row field).greatest)

-- the header before its lines are read; numbers whose line a version doesn't have keep these values
abbrev pub blank : Header
blank = record { version = 1; regs = 1; left = 1; seed = 0; budget = 1; pool = 0 ∷ []; scratch = 0; costs = None }

-- the version of a table that is learnt: 4 if instructions have costs, else 2
abbrev pub version_with : Option (List ℕ) → ℕ
version_with None = 2
version_with (Some costs) = 4

-- the header of a table that is learnt with these settings
abbrev pub learnt_header : (regs left budget seed scratch : ℕ) → (pool : List ℕ) → (costs : Option (List ℕ)) → Header
learnt_header regs left budget seed scratch pool costs =
    record { version = version_with costs; regs = regs; left = left; seed = seed; budget = budget; pool = pool; scratch = scratch; costs = costs }

-- each number lies within its limits, the pool and the costs are valid, there are costs if and only if the version has a line for them, and a number for which
-- the version has no line is that of `blank`
pub record IsHeader (h : Header) : Type 0 where
  pub numbers : (field : Field) → IsWithin field (number_in h field)
  pub pool : is_pool h.pool ≡ true
  pub costs : IfSome h.costs AreCosts
  pub costed : has_line h.version Costs ≡ true → IsSome h.costs
  pub uncosted : has_line h.version Costs ≡ false → h.costs ≡ None
  pub unsaid : (field : Field) → has_line h.version (Number field) ≡ false → number_in h field ≡ number_in blank field
