-- What alignments pad, and which addresses are multiples of 4.
use Rattle.std.proofs.Common.{◌≡◌, ◌∙◌, inl, inr, ℕ, suc, ◌+◌, ◌-◌, ◌*◌, ◌%◌, ◌/◌, ◌<◌, ◌≤◌, ◌==◌, ◌&&◌, Bool, true, sym, ap, arith}
use Rattle.std.specs.Prelude.{nat_le, nat_lt}
use Rattle.std.proofs.lemmas.Bool.{cases_eq, and_parts, ltb-true, leb-true, eqb-true, le-leb}
use Rattle.std.proofs.lemmas.Nat.{mod_below, div-add-mod', mod-mul-add, mul-mod_second}
use Rattle.std.proofs.Math.Nat.{mod-eq_of_lt, suc-mul}
use Rattle.thumb_instr.specs.declared.instr.Instr.{Instr}
use Rattle.thumb_instr.specs.declared.instr.Instr.TheVariants as instr
use Rattle.thumb_model.specs.Listing.{Statement, Instruction, Aligns}
use Rattle.thumb_model.specs.Layout.{instr_size, padding, size_at}
use Rattle.label_layout.proofs.Shared.{need, need_small, padding_most}
use Rattle.steady_layout.specs.Steady.{most_of, aligns_surely, ends_aligned}

-- an instruction takes some bytes: a row
pub some_bytes : (i : Instr) → 0 < instr_size i
some_bytes (instr.Call d) = omega arith
some_bytes i = omega arith

-- ---- padding ----

pub size_most : (s : Statement) (at : ℕ) → size_at s at ≤ most_of s
size_most (Aligns size most) at = padding_most size most at
size_most s at = omega arith

-- ---- multiples of 4 ----

-- a multiple of a multiple of 4
multiple : (size q n : ℕ) → size % 4 ≡ 0 → n ≡ q * size → n % 4 ≡ 0
multiple size q n h e =
    ap (λ (x : ℕ). x % 4) e
    ∙ sym (mul-mod_second q size 4)
    ∙ ap (λ (x : ℕ). (q * x) % 4) h
    ∙ ap (λ (x : ℕ). x % 4) (let z : q * 0 ≡ 0 = omega arith in z)

rest_of : (at size left p n : ℕ) → p + left ≡ at → left ≡ 0 → n ≡ 0 → at + n ≡ p
rest_of at size left p n e f g = omega arith

next_of : (at size left p n s : ℕ) → p + left ≡ at → left < size → n ≡ size - left → s ≡ p + size → at + n ≡ s
next_of at size left p n s e f g h = omega arith

-- it leads to a multiple of the size
reached : (size at : ℕ) → 0 < size → (q : ℕ) × (at + need size at ≡ q * size)
reached size at h = elim (cases_eq (at % size) 0) [
  | inl e ↦
      let all : size - at % size ≡ 1 * size + 0 = omega arith in
      let none : need size at ≡ 0 = ap (λ (x : ℕ). x % size) all ∙ mod-mul-add 1 size 0 h in
      (at / size, rest_of at size (at % size) (at / size * size) (need size at) (div-add-mod' at size) e none)
  | inr e ↦
      let below = mod_below at size h in
      let some : need size at ≡ size - at % size = mod-eq_of_lt (let z : size - at % size < size = omega arith in z) in
      (suc (at / size), next_of at size (at % size) (at / size * size) (need size at) (suc (at / size) * size) (div-add-mod' at size) below some (suc-mul (at / size) size))
]

padded : (size most at : ℕ) → aligns_surely size most ≡ true → (at + padding size most at) % 4 ≡ 0
padded size most at e =
    let p = and_parts (nat_lt 0 size) (size % 4 == 0 && nat_le (size - 1) most) e in
    let q = and_parts (size % 4 == 0) (nat_le (size - 1) most) p.1 in
    let some = ltb-true 0 size p.0 in
    let enough = leb-true (size - 1) most q.1 in
    let small = need_small size at in
    let r = reached size at some in
    rw (le-leb (need size at) most (omega arith)) (multiple size r.0 (at + need size at) (eqb-true (size % 4) 0 q.0) r.1)

pub ends_told : (s : Statement) (aligned : Bool) (at : ℕ) → (aligned ≡ true → at % 4 ≡ 0) → ends_aligned aligned s ≡ true → (at + size_at s at) % 4 ≡ 0
ends_told (Instruction i m) aligned at h e =
    let p = and_parts aligned (instr_size i == 4) e in
    let a = h p.0 in
    let four = eqb-true (instr_size i) 4 p.1 in
    omega arith
ends_told (Aligns size most) aligned at h e = padded size most at e
ends_told s aligned at h e = let a = h e in omega arith
