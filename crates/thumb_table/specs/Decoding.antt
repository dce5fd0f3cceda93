-- What encoding and decoding mean: which halfwords are the code of an instruction, and what is read from them.
use Rattle.std.specs.Prelude.{ℕ, ◌+◌, ◌*◌, ◌/◌, ◌^◌, ◌==◌, Bool, true, nat_lt, List, ◌∷◌, ◌≡◌, ◌-◌, ◌<◌, ◌||◌}
use Rattle.thumb_instr.specs.declared.kind.Parts.{Parts}
use Rattle.thumb_table.specs.declared.row.OperandPosition.TheVariants as position
use Rattle.thumb_table.specs.declared.row.Piece.{Piece}
use Rattle.thumb_table.specs.declared.row.Piece.TheVariants.{Fixed}
use Rattle.thumb_instr.specs.declared.instr.Instr.{Instr}
use Rattle.thumb_instr.specs.declared.kind.Kind.{Kind}
use Rattle.thumb_instr.specs.Parts.{of, parts_of}
use Rattle.thumb_table.specs.declared.row.Code.{Code}
use Rattle.thumb_table.specs.declared.row.Code.TheVariants as code
use Rattle.thumb_table.specs.Table.{width, pieces, row_of, code_of, whole, Encodes}
use Rattle.thumb_table.specs.ReadBits.{agrees, read_on}

-- no instruction has these halfwords as its code
abbrev pub IsNoCode : ℕ → ℕ → Type 0
IsNoCode first second = (i : Instr) → Encodes i first second → ⊥

-- how many halfwords a code has, and the number that they make
abbrev pub halfwords : Code → ℕ
halfwords (code.One a) = 1
halfwords (code.Two a b) = 2

abbrev pub whole_of : Code → ℕ
whole_of (code.One a) = a
whole_of (code.Two a b) = a * 65536 + b

-- the code is that of the instruction
pub record IsCode (i : Instr) (c : Code) : Type 0 where
  pub long : width (row_of i) ≡ 16 * halfwords c
  pub is : code_of i ≡ whole_of c

-- no two halfwords agree with the rows of two kinds
abbrev pub AreApart : Type 0
AreApart = (k l : Kind) (first second : ℕ) → first < 65536 → second < 65536
    → agrees (pieces k) (whole (pieces k) first second) ≡ true → agrees (pieces l) (whole (pieces l) first second) ≡ true → k ≡ l

-- whether a first halfword has the row's leading fixed bits
abbrev pub begins_with : List Piece → ℕ → Bool
begins_with (Fixed w x ∷ ps) a = nat_lt 16 w || (a / 2 ^ (16 - w) == x)
begins_with ps a = true

-- the registers and numbers that a code holds by a kind's row
abbrev pub read_parts : Kind → ℕ → Parts
read_parts k c = of k (read_on position.First (pieces k) c 0) (read_on position.Second (pieces k) c 0) (read_on position.Third (pieces k) c 0)

-- no instruction of this kind has these halfwords as its code
abbrev pub IsNotOf : Kind → ℕ → ℕ → Type 0
IsNotOf k first second = (i : Instr) → (parts_of i).kind ≡ k → Encodes i first second → ⊥
