-- Words as lists of bits, the lowest first, and the operations on them that need no gate.
use Rattle.std.specs.Prelude.{ℕ, zero, suc, ◌-◌, ◌*◌, ◌/◌, ◌%◌, ◌==◌, false, List, [], ◌∷◌, ◌++◌, map, take, drop, replicate, slice_index_or}
use Rattle.word_bits.specs.declared.Shift.{Shift}
use Rattle.word_bits.specs.declared.Shift.TheVariants.{Lsl, Lsr, Asr, Ror}
use Rattle.thumb_instr.specs.declared.operation.Extension.{Extension}
use Rattle.thumb_instr.specs.declared.operation.Extension.TheVariants as extension
use Rattle.thumb_instr.specs.declared.operation.Reversal.{Reversal}
use Rattle.thumb_instr.specs.declared.operation.Reversal.TheVariants as reversal
use Rattle.cnf_gates.specs.declared.bit.Bit.{Bit}
use Rattle.cnf_gates.specs.declared.bit.Bit.TheVariants.{Constant}
use Rattle.cnf_gates.specs.Gates.{not_of}

-- bit i of a word
abbrev pub bit_of : List Bit → ℕ → Bit
bit_of xs i = slice_index_or xs i (Constant false)

-- n copies of a bit
abbrev pub copies : ℕ → Bit → List Bit
copies n x = replicate n x

-- a number's n lowest bits
abbrev pub number_bits : ℕ → ℕ → List Bit
number_bits zero x = []
number_bits (suc n) x = Constant (x % 2 == 1) ∷ number_bits n (x / 2)

-- the same bit at each of the 32 places
unfoldable pub filled : Bit → List Bit
filled x = copies 32 x

-- a number as a word
unfoldable pub constant : ℕ → List Bit
constant x = number_bits 32 x

-- the complement of each bit
abbrev pub inverted : List Bit → List Bit
inverted xs = map not_of xs

-- the bit that a shift fills with: the highest bit for ASR, and otherwise False
abbrev pub fill : Shift → List Bit → Bit
fill Lsl xs = Constant false
fill Lsr xs = Constant false
fill Asr xs = bit_of xs 31
fill Ror xs = Constant false

-- a word shifted or rotated by n places, at most 32
abbrev pub moved : Shift → ℕ → List Bit → List Bit
moved Lsl n xs = copies n (Constant false) ++ take (32 - n) xs
moved Lsr n xs = drop n xs ++ copies n (Constant false)
moved Asr n xs = drop n xs ++ copies n (bit_of xs 31)
moved Ror n xs = drop n xs ++ take n xs

-- the last bit that a shift by n places, not 0, moves out
abbrev pub moved_out : Shift → ℕ → List Bit → Bit
moved_out Lsl n xs = bit_of xs (32 - n)
moved_out Lsr n xs = bit_of xs (n - 1)
moved_out Asr n xs = bit_of xs (n - 1)
moved_out Ror n xs = bit_of xs (n - 1)

-- SXTH, SXTB, UXTH and UXTB
abbrev pub extended : Extension → List Bit → List Bit
extended extension.Sxth xs = take 16 xs ++ copies 16 (bit_of xs 15)
extended extension.Sxtb xs = take 8 xs ++ copies 24 (bit_of xs 7)
extended extension.Uxth xs = take 16 xs ++ copies 16 (Constant false)
extended extension.Uxtb xs = take 8 xs ++ copies 24 (Constant false)

-- byte i of a word
abbrev pub byte_bits : ℕ → List Bit → List Bit
byte_bits i xs = take 8 (drop (8 * i) xs)

-- REV, REV16 and REVSH
abbrev pub turned : Reversal → List Bit → List Bit
turned reversal.Rev xs = byte_bits 3 xs ++ byte_bits 2 xs ++ byte_bits 1 xs ++ byte_bits 0 xs
turned reversal.Rev16 xs = byte_bits 1 xs ++ byte_bits 0 xs ++ byte_bits 3 xs ++ byte_bits 2 xs
turned reversal.Revsh xs = byte_bits 1 xs ++ byte_bits 0 xs ++ copies 16 (bit_of xs 7)
