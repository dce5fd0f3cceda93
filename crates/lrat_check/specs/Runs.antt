-- Sequences of accepted lines, and refutations.
use Rattle.std.specs.Prelude.{ℕ, ◌≡◌, ◌+◌, List, [], ◌∷◌, true, map}
use Rattle.lrat_check.specs.declared.line.Line.{Line}
use Rattle.lrat_check.specs.Text.{Content, content_of}
use Rattle.lrat_check.specs.Checking.{State, Starts, Accepts}
use Rattle.lrat_check.specs.Costs.{cost_of}

-- the lines' content
abbrev pub contents_of : List Line → List Content
contents_of lines = map content_of lines

-- the lines are accepted in turn, and lead from one state to the other
abbrev pub AcceptsAll : State → List Content → State → Type 0
AcceptsAll old [] new = new ≡ old
AcceptsAll old (line ∷ lines) new = (next : State) × Accepts old line next × AcceptsAll next lines new

-- by the lines a checker goes from the clauses of a formula to a refuted state
pub record IsRefutation (clauses : List (List ℕ)) (lines : List Content) : Type 0 where
  pub first : State
  pub last : State
  pub starts : Starts clauses first
  pub accepts : AcceptsAll first lines last
  pub refuted : last.refuted ≡ true

-- n is the sum of the lengths of the clauses that the hints of all lines name when each line is accepted
abbrev pub Costs : State → List Content → ℕ → Type 0
Costs old [] n = n ≡ 0
Costs old (line ∷ lines) n = (next : State) × (m : ℕ) × Accepts old line next × Costs next lines m × (n ≡ cost_of old line + m)
