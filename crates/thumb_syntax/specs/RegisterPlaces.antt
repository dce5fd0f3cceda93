-- The registers grouped by the second byte of their names, as the reader looks them up.
use Rattle.std.specs.Prelude.{ℕ, ◌%◌, ◌==◌, List, [], ◌∷◌, map}
use Rattle.std.specs.List.{filter, range_with_len}
use Rattle.std.specs.Borrow.{Bor}
use Rattle.thumb_syntax.specs.declared.registers.Register.{Register}
use Rattle.ascii_scan.specs.Names.{registers}
use Rattle.thumb_syntax.specs.RegisterView.{named}

-- the index of a word in the table of registers: its second byte modulo 32, the same in either case
abbrev pub second_place : List ℕ → ℕ
second_place [] = 0
second_place (a ∷ []) = 0
second_place (a ∷ b ∷ bs) = b % 32

abbrev pub registers_at : ℕ → List (List ℕ × ℕ)
registers_at place = filter (λ r. second_place r.0 == place) registers

abbrev pub registers_by_place : List (List (List ℕ × ℕ))
registers_by_place = map registers_at (range_with_len 0 32)

abbrev pub named_at : List (Bor (List Register)) → List (List (List ℕ × ℕ))
named_at places = map (λ (rs : Bor (List Register)). map named rs.now) places
