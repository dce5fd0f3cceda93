-- The numbers in the lines of a proof, ids, hints and literals, with their ranges.
use Rattle.std.specs.Prelude.{ℕ, ℤ, pos, negsuc, ◌≢◌, ◌<◌, ◌^◌, Bool, true, false, List, All, unsigned_abs}

abbrev pub is_negative : ℤ → Bool
is_negative (pos n) = false
is_negative (negsuc n) = true

-- the number of a clause
abbrev pub IsId : ℕ → Type 0
IsId n = (0 < n) × (n < 2 ^ 32)

-- an id or its negative
abbrev pub IsHint : ℤ → Type 0
IsHint z = (z ≢ pos 0) × (unsigned_abs z < 2 ^ 32)

-- the literals are by the first 200,000 variables
abbrev pub AllWithin : List ℕ → Type 0
AllWithin literals = All (λ l. l < 400000) literals
