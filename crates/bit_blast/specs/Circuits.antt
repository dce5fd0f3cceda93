-- The circuits over words: the gates that they build, in order. This fixes the numbers of variables, so the formula of two sequences is known exactly.
use Rattle.std.specs.Prelude.{ℕ, ◌+◌, ◌^◌, false, List, [], ◌∷◌, ◌++◌, take}
use Rattle.word_bits.specs.declared.Shift.{Shift}
use Rattle.word_bits.specs.declared.Shift.TheVariants.{Lsl, Ror}
use Rattle.cnf_gates.specs.declared.bit.Bit.{Bit}
use Rattle.cnf_gates.specs.declared.bit.Bit.TheVariants.{Constant}
use Rattle.cnf_gates.specs.Gates.{Built, and_of, or_of, xor_of, ite_of, not_of}
use Rattle.bit_blast.specs.declared.circuits.Connective.{Connective}
use Rattle.bit_blast.specs.declared.circuits.Connective.TheVariants.{And, Or, Xor}
use Rattle.bit_blast.specs.Words.{bit_of, filled, fill, moved, moved_out}

-- ---- bit by bit

-- one gate of the given kind
abbrev pub connected : Connective → Built → Bit → Bit → Built × Bit
connected And b x y = and_of b x y
connected Or b x y = or_of b x y
connected Xor b x y = xor_of b x y

-- one gate for each pair of bits of two words, from the lowest pair up
abbrev pub each_of : Connective → Built → List Bit → List Bit → Built × List Bit
each_of gate b [] ys = (b, [])
each_of gate b (x ∷ xs) [] = (b, [])
each_of gate b (x ∷ xs) (y ∷ ys) =
    let r = connected gate b x y in
    let s = each_of gate r.0 xs ys in
    (s.0, r.1 ∷ s.1)

-- bit i is ite(a, ys at i, xs at i)
abbrev pub choose_each : Built → Bit → List Bit → List Bit → Built × List Bit
choose_each b a [] xs = (b, [])
choose_each b a (y ∷ ys) [] = (b, [])
choose_each b a (y ∷ ys) (x ∷ xs) =
    let r = ite_of b a y x in
    let s = choose_each r.0 a ys xs in
    (s.0, r.1 ∷ s.1)

-- the word of a result, with bits put in front
abbrev pub before_word : List Bit → Built × List Bit → Built × List Bit
before_word front r = (r.0, front ++ r.1)

-- Z: z starts True, and for bits from 0 on z becomes and(z, not bit)
abbrev pub none_of : Built → List Bit → Bit → Built × Bit
none_of b [] z = (b, z)
none_of b (x ∷ xs) z = let r = and_of b z (not_of x) in none_of r.0 xs r.1

-- z or any of the bits, one gate for each bit from the first on
abbrev pub any_of : Built → List Bit → Bit → Built × Bit
any_of b [] z = (b, z)
any_of b (x ∷ xs) z = let r = or_of b z x in any_of r.0 xs r.1

-- ---- sums

-- a full adder: p = xor(x, y), s = xor(p, c), g = and(x, y), h = and(p, c), and the next carry or(g, h)
abbrev pub place_of : Built → Bit → Bit → Bit → Built × (Bit × Bit)
place_of b x y c =
    let p = xor_of b x y in
    let s = xor_of p.0 p.1 c in
    let g = and_of s.0 x y in
    let h = and_of g.0 p.1 c in
    let n = or_of h.0 g.1 h.1 in
    (n.0, (s.1, n.1))

-- the places of a sum: its bits, the last carry, and the carry before it
pub record Places : Type 0 where
  pub value : List Bit
  pub carry : Bit
  pub before : Bit

-- the places from the lowest on, where c is the carry into the first of them and `before` the carry before c
abbrev pub places_of : Built → List Bit → List Bit → Bit → Bit → Built × Places
places_of b [] ys c before = (b, record { value = []; carry = c; before = before })
places_of b (x ∷ xs) [] c before = (b, record { value = []; carry = c; before = before })
places_of b (x ∷ xs) (y ∷ ys) c before =
    let here = place_of b x y c in
    let rest = places_of here.0 xs ys here.1.1 c in
    (rest.0, record { value = here.1.0 ∷ rest.1.value; carry = rest.1.carry; before = rest.1.before })

-- the places of a result, with bits put in front
abbrev pub before_places : List Bit → Built × Places → Built × Places
before_places front r = (r.0, record r.1 { value = front ++ r.1.value })

-- the bits of a sum, C and V
pub record Total : Type 0 where
  pub value : List Bit
  pub carry : Bit
  pub overflow : Bit

-- add(x, y, c): C is the last carry, V is xor of the carry into the highest bit and C, formed last
abbrev pub add_of : Built → List Bit → List Bit → Bit → Built × Total
add_of b xs ys c =
    let p = places_of b xs ys c c in
    let v = xor_of p.0 p.1.before p.1.carry in
    (v.0, record { value = p.1.value; carry = p.1.carry; overflow = v.1 })

-- MULS: for j from 0 on a row is formed, False below bit j and and(xs at i - j, ys at j) from there on, and added to the sum so far
abbrev pub product_from : Built → ℕ → List Bit → List Bit → List Bit → Built × List Bit
product_from b j xs [] sum = (b, sum)
product_from b j xs (y ∷ ys) sum =
    let row = each_of And b (moved Lsl j xs) (filled y) in
    let added = add_of row.0 sum row.1 (Constant false) in
    product_from added.0 (j + 1) xs ys added.1.value

-- ---- shifts by a register

-- a word and a carry
pub record Shifted : Type 0 where
  pub value : List Bit
  pub carry : Bit

-- where a is true, the word becomes these bits and the carry becomes `out`
abbrev pub stage_of : Built → Bit → List Bit → Bit → Shifted → Built × Shifted
stage_of b a bits out s =
    let r = choose_each b a bits s.value in
    let c = ite_of r.0 a out s.carry in
    (c.0, record { value = r.1; carry = c.1 })

-- bit after bit: where bit j of the amount is set, the word moves by 2^j
abbrev pub stages_from : Shift → Built → ℕ → List Bit → Shifted → Built × Shifted
stages_from kind b j [] s = (b, s)
stages_from kind b j (a ∷ rest) s =
    let r = stage_of b a (moved kind (2 ^ j) s.value) (moved_out kind (2 ^ j) s.value) s in
    stages_from kind r.0 (j + 1) rest r.1

-- LSL, LSR, ASR by the low byte of a word: bits 0 to 5 move by 1 to 32 places, and either of bits 6 and 7 moves all bits out
abbrev pub shift_by : Shift → Built → List Bit → Shifted → Built × Shifted
shift_by kind b amount s =
    let near = stages_from kind b 0 (take 6 amount) s in
    let far = or_of near.0 (bit_of amount 6) (bit_of amount 7) in
    let rest = fill kind near.1.value in
    stage_of far.0 far.1 (filled rest) rest near.1

-- bit after bit: where bit j of the amount is set, the word rotates by 2^j
abbrev pub rotations_from : Built → ℕ → List Bit → List Bit → Built × List Bit
rotations_from b j [] xs = (b, xs)
rotations_from b j (a ∷ rest) xs =
    let r = choose_each b a (moved Ror (2 ^ j) xs) xs in
    rotations_from r.0 (j + 1) rest r.1

-- ROR by the low byte of a word: bits 0 to 4 rotate, and where any of bits 0 to 7 is set the carry is the highest bit
abbrev pub rotate_by : Built → List Bit → Shifted → Built × Shifted
rotate_by b amount s =
    let r = rotations_from b 0 (take 5 amount) s.value in
    let some = any_of r.0 (take 8 amount) (Constant false) in
    let c = ite_of some.0 some.1 (bit_of r.1 31) s.carry in
    (c.0, record { value = r.1; carry = c.1 })
