-- Which items are those of a line: their limits.
use Rattle.std.specs.Prelude.{◌≡◌, ◌<◌, ◌^◌, true, [], ◌∷◌}
use Rattle.std.specs.List.{All}
use Rattle.seq_enum.specs.Alphabet.{is_pool}
use Rattle.seq_enum.specs.Costs.{AreCosts}
use Rattle.lrat_check.specs.Text.{IsLine}
use Rattle.rule_table.specs.Header.{IsWithin}
use Rattle.rule_table.specs.Text.{Item, Number, Pool, Costs, State, Entry, Left, Right, Mask, Proof, Logged, Open, Family, End}
use Rattle.rule_table.specs.Table.{IsState, IsInstr, IsMask}

-- what a line says lies in its limits
abbrev pub IsItem : Item → Type 0
IsItem (Number field n) = IsWithin field n
IsItem (Pool ns) = is_pool ns ≡ true
IsItem (Costs ns) = AreCosts ns
IsItem (State s) = IsState s
IsItem Entry = Unit {0}
IsItem (Left i) = IsInstr i
IsItem (Right i) = IsInstr i
IsItem (Mask m) = IsMask m
IsItem Proof = Unit {0}
IsItem (Logged c) = IsLine c
IsItem (Open n) = n < 2 ^ 64
IsItem (Family entry number low high) = All (λ n. n < 2 ^ 32) (entry ∷ number ∷ low ∷ high ∷ [])
IsItem End = Unit {0}
