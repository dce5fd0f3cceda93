-- The effect of one more line when a text of costs is read.
use Rattle.std.specs.Prelude.{◌≡◌, ℕ, Bool, true, false, List, get_or, slice_set, codes, Option, Some, None}
use Rattle.ascii_scan.specs.Lines.{Placed}
use Rattle.seq_enum.specs.declared.cost_text.Said.{Said}
use Rattle.seq_enum.specs.Costs.{IsSaid, line_of}

-- the line is the heading of a text of costs
pub record IsHeading (line : Placed) : Type 0 where
  pub ended : line.is_ended ≡ true
  pub is : line.text ≡ codes "costs 1"

-- the line, with its newline, has this content
pub record Says (line : Placed) (s : Said) : Type 0 where
  pub ended : line.is_ended ≡ true
  pub valid : IsSaid s
  pub is : line_of s ≡ line.text

-- the line has the cost of a mnemonic that had none yet, which is noted
pub record IsNoted (line : Placed) (before after : List (Option ℕ)) : Type 0 where
  pub said : Said
  pub says : Says line said
  pub fresh : get_or before said.mnemonic None ≡ None
  pub is : after ≡ slice_set before said.mnemonic (Some said.cost)

-- whether a line is noted; it isn't where it has no cost, or its mnemonic has one already
abbrev pub Notes : Placed → (before after : List (Option ℕ)) → Bool → Type 0
Notes line before after true = IsNoted line before after
Notes line before after false = (s : Said) → Says line s → get_or before s.mnemonic None ≡ None → ⊥
