-- Hashes of instruction sequences that ignore registers.
use Rattle.std.specs.Prelude.{ℕ, ◌+◌, ◌*◌, ◌%◌, Bool, true, false, List, [], ◌∷◌, unwrap_or}
use Rattle.std.proofs.Common.{leb-true, ltb-true, refl}
use Rattle.thumb_instr.specs.declared.instr.Instr.{Instr}
use Rattle.thumb_instr.specs.declared.instr.Instr.TheVariants as instr
use Rattle.thumb_instr.specs.Parts.{parts_of}
use Rattle.thumb_instr.specs.Window.{normal_of}
use Rattle.bit_blast.specs.Slots.{Byte}
use Rattle.seq_enum.specs.Places.{rank}

-- 0 in 8 bits
abbrev pub no_byte : Byte
no_byte = record { number = 0; least = leb-true 0 0 refl; below = ltb-true 0 256 refl }

-- movs, cmp, adds and subs with 0 for their 8-bit number
abbrev pub blind : Instr → Instr
blind (instr.TwoNumber o d i) = instr.TwoNumber o d no_byte
blind i = i

-- an instruction in its normal form, as it is or blind
abbrev pub seen : Bool → Instr → Instr
seen true i = blind (normal_of i)
seen false i = normal_of i

-- the number that stands in an instruction of windows beside its registers, or 0
abbrev pub number_in : Instr → ℕ
number_in (instr.ShiftLeft d m i) = i.number
number_in (instr.ShiftRight s d m i) = i.number
number_in (instr.ThreeNumber s d n i) = i.number
number_in (instr.TwoNumber o d i) = i.number
number_in i = 0

-- the number of one instruction of windows: different for each mnemonic and each number that stands in it
abbrev pub head_number : Instr → ℕ
head_number i = 37 * number_in i + unwrap_or (rank (parts_of i).kind) 0

-- the hash of instructions and one more after them, from the hash of the former
abbrev pub next_hash : ℕ → Instr → ℕ
next_hash hash i = (hash * 1283 + head_number i) % 65536

abbrev pub hash_from : ℕ → List Instr → ℕ
hash_from hash [] = hash
hash_from hash (i ∷ is) = hash_from (next_hash hash i) is

abbrev pub hash_of : List Instr → ℕ
hash_of is = hash_from 0 is
