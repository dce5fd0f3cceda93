-- Hashes of left sides that depend on registers too, by which rules are looked up: different left sides seldom have the same.
use Rattle.std.specs.Prelude.{ℕ, ◌+◌, ◌*◌, ◌%◌, List, [], ◌∷◌, unwrap_or}
use Rattle.thumb_instr.specs.declared.instr.Instr.{Instr}
use Rattle.thumb_instr.specs.Parts.{parts_of}
use Rattle.seq_enum.specs.Places.{rank}

-- a number of an instruction of windows, by its mnemonic, registers and number: different instructions seldom have the same
abbrev pub instr_number : Instr → ℕ
instr_number i = 37 * ((parts_of i).first + 5 * (parts_of i).second + 25 * (parts_of i).third) + unwrap_or (rank (parts_of i).kind) 0

-- the hash of instructions and one more after them, from the hash of the former
abbrev pub next_form : ℕ → Instr → ℕ
next_form form i = (form * 1283 + instr_number i) % 65536

abbrev pub form_from : ℕ → List Instr → ℕ
form_from form [] = form
form_from form (i ∷ is) = form_from (next_form form i) is

abbrev pub form_of : List Instr → ℕ
form_of is = form_from 0 is
