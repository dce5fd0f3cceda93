-- The formula of two sequences under a mask, and of two whose holes take a symbol's value.
use Rattle.std.specs.Prelude.{ℕ, zero, suc, ◌+◌, ◌-◌, ◌*◌, Bool, true, false, List, [], ◌∷◌, ◌++◌, map, take, if◌then◌else◌}
use Rattle.cnf_gates.specs.declared.bit.Bit.{Bit}
use Rattle.cnf_gates.specs.declared.bit.Bit.TheVariants.{Constant, Signed}
use Rattle.cnf_gates.specs.Cnf.{Cnf}
use Rattle.cnf_gates.specs.Gates.{Built, xor_of, or_clause_of, formula_of}
use Rattle.thumb_instr.specs.declared.instr.Instr.{Instr}
use Rattle.thumb_instr.specs.Items.{has, n_flag, z_flag, c_flag, v_flag}
use Rattle.bit_blast.specs.declared.circuits.Connective.TheVariants.{Xor}
use Rattle.bit_blast.specs.declared.slots.Slot.{Slot}
use Rattle.bit_blast.specs.declared.slots.Slot.TheVariants.{Plain}
use Rattle.bit_blast.specs.declared.slots.Symbol.{Symbol}
use Rattle.bit_blast.specs.Slots.{slots}
use Rattle.bit_blast.specs.Words.{bit_of, copies, filled, inverted}
use Rattle.bit_blast.specs.Circuits.{each_of}
use Rattle.bit_blast.specs.Forming.{Bits, formed_all}

-- ---- the start: variables are numbered from 0 here, and from 1 in clauses; 2 * v is the positive literal of the variable v

-- n variables from v on
abbrev pub variables_from : ℕ → ℕ → List Bit
variables_from v zero = []
variables_from v (suc n) = Signed (2 * v) ∷ variables_from (suc v) n

-- a word of variables from v on
unfoldable pub input_word : ℕ → List Bit
input_word v = variables_from v 32

-- k words of variables from v on
abbrev pub words_from : ℕ → ℕ → List (List Bit)
words_from v zero = []
words_from v (suc k) = input_word v ∷ words_from (v + 32) k

-- bit b of register r is variable 32 r + b, and N, Z, C, V are the four after the registers
abbrev pub start_bits : ℕ → Bits
start_bits k = record {
  r = words_from 0 k;
  n = Signed (2 * (32 * k));
  z = Signed (2 * (32 * k + 1));
  c = Signed (2 * (32 * k + 2));
  v = Signed (2 * (32 * k + 3));
}

abbrev pub start_built : ℕ → Built
start_built k = record { variables = 32 * k + 4; clauses = []; gates = [] }

-- ---- differences: bits of which some is true where the states x and y differ in the mask

-- those of the registers of the mask, from number i on
abbrev pub register_differences : Built → ℕ → ℕ → List (List Bit) → List (List Bit) → Built × List Bit
register_differences b mask i [] ys = (b, [])
register_differences b mask i (x ∷ xs) [] = (b, [])
register_differences b mask i (x ∷ xs) (y ∷ ys) =
    if has mask i then
    (let r = each_of Xor b x y in
    let s = register_differences r.0 mask (i + 1) xs ys in
    (s.0, r.1 ++ s.1))
    else register_differences b mask (i + 1) xs ys

-- that of a flag, where it is in the mask
abbrev pub flag_difference : Built → Bool → Bit → Bit → Built × List Bit
flag_difference b false x y = (b, [])
flag_difference b true x y = let r = xor_of b x y in (r.0, r.1 ∷ [])

-- the items in order r0 to r3, N, Z, C, V
abbrev pub differences : Built → ℕ → Bits → Bits → Built × List Bit
differences b mask x y =
    let r = register_differences b mask 0 (take 4 x.r) (take 4 y.r) in
    let n = flag_difference r.0 (has mask n_flag) x.n y.n in
    let z = flag_difference n.0 (has mask z_flag) x.z y.z in
    let c = flag_difference z.0 (has mask c_flag) x.c y.c in
    let v = flag_difference c.0 (has mask v_flag) x.v y.v in
    (v.0, (((r.1 ++ n.1) ++ z.1) ++ c.1) ++ v.1)

-- ---- the formula of two sides of slots

-- both sides start from the same bits s, and w are those of the symbol's value: the left one is formed first, then the right one, then the differences
abbrev pub sides_from : Built → Bits → List Bit → List Slot → List Slot → ℕ → Built × List Bit
sides_from b s w left right mask =
    let l = formed_all w b left s in
    let r = formed_all w l.0 right s in
    differences r.0 mask l.1 r.1

-- the clause that some item differs comes last
abbrev pub formula_from : Built → Bits → List Bit → List Slot → List Slot → ℕ → Cnf
formula_from b s w left right mask = let d = sides_from b s w left right mask in formula_of (or_clause_of d.0 d.1)

-- the formula of sides without holes
abbrev pub sides_formula : List Instr → List Instr → ℕ → ℕ → Cnf
sides_formula left right mask k = formula_from (start_built k) (start_bits k) (filled (Constant false)) (map Plain left) (map Plain right) mask

-- ---- the formula of two sides with holes

-- a word of n variables from v on, and False above them
unfoldable pub low_inputs : ℕ → ℕ → List Bit
low_inputs v n = variables_from v n ++ copies (32 - n) (Constant false)

-- bits 0 to 7 of the symbol's value are the eight variables after those of the start
abbrev pub symbol_bits : ℕ → List Bit
symbol_bits k = variables_from (32 * k + 4) 8

abbrev pub symbol_built : ℕ → Built
symbol_built k = record { variables = 32 * k + 12; clauses = []; gates = [] }

-- the clauses that the number in eight bits is `least` or more, from bit j - 1 down: for each bit that is set in `least`, it is set in the number, or one of
-- the higher bits that are clear in `least` (`higher`) is
abbrev pub at_least_from : List Bit → ℕ → ℕ → List Bit → Built → Built
at_least_from xs least zero higher b = b
at_least_from xs least (suc j) higher b =
    if has least j then at_least_from xs least j higher (or_clause_of b (bit_of xs j ∷ higher))
    else at_least_from xs least j (higher ++ bit_of xs j ∷ []) b

unfoldable pub at_least : List Bit → ℕ → Built → Built
at_least xs least b = at_least_from xs least 8 [] b

-- the value is at least s.low; and it is at most s.high: the complement of the bits is at least 255 - s.high
abbrev pub range_built : ℕ → Symbol → Built
range_built k s = at_least (inverted (symbol_bits k)) (255 - s.high) (at_least (symbol_bits k) s.low (symbol_built k))

abbrev pub family_formula : List Instr → List Instr → Symbol → ℕ → ℕ → Cnf
family_formula left right s mask k = formula_from (range_built k s) (start_bits k) (low_inputs (32 * k + 4) 8) (slots s.number left) (slots s.number right) mask
