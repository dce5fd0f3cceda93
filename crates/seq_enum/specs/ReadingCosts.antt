-- What reading a text as costs answers.
use Rattle.std.specs.Prelude.{◌≡◌, ℕ, List, Result, Ok, Err}
use Rattle.seq_enum.specs.declared.cost_text.CostLine.{CostLine}
use Rattle.seq_enum.specs.Costs.{IsCostText, IsRefusedCosts}

-- the costs whose text the bytes are, or the line that is refused
abbrev pub ReadsCosts : List ℕ → Result (List ℕ) CostLine → Type 0
ReadsCosts bytes (Ok costs) = IsCostText bytes costs
ReadsCosts bytes (Err line) = IsRefusedCosts bytes line.number

-- a text has one meaning at most
abbrev pub OneMeaning : Type 0
OneMeaning = (bytes costs others : List ℕ) → IsCostText bytes costs → IsCostText bytes others → costs ≡ others

-- no text is one of costs and refused as well, and it is refused at one line
abbrev pub NotBoth : Type 0
NotBoth = (bytes costs : List ℕ) (n : ℕ) → IsCostText bytes costs → IsRefusedCosts bytes n → ⊥

abbrev pub RefusedOnce : Type 0
RefusedOnce = (bytes : List ℕ) (n m : ℕ) → IsRefusedCosts bytes n → IsRefusedCosts bytes m → n ≡ m
