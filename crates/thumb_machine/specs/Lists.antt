-- Lists that hold numbers of registers alone, so that the code may index by them.
use Rattle.std.specs.Prelude.{ℕ, ◌<◌, List, [], ◌∷◌}

-- each is the number of a register: r0 to r12, sp or lr
abbrev pub AreRegisters : List ℕ → Type 0
AreRegisters [] = Unit {0}
AreRegisters (x ∷ xs) = (x < 15) × AreRegisters xs
