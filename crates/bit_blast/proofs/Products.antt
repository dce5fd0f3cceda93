-- The circuit of shifted rows that are added computes the low 32 bits of the product.
use Rattle.std.proofs.Common.{◌≡◌, ℕ, suc, ◌+◌, ◌-◌, ◌*◌, ◌^◌, ◌/◌, ◌%◌, ◌≤◌, List, [], ◌∷◌, Bool, true, false, length, sym, ap, ◌∙◌, arith, bit_and}
use Rattle.std.proofs.Math.Nat.{mod-eq_of_lt, add-mul-mod_self_right}
use Rattle.std.proofs.lemmas.Nat.{div-add-mod', and_mask, pow-add}
use Rattle.std.specs.Int.{from_bool}
use Rattle.word_bits.specs.declared.Shift.TheVariants.{Lsl}
use Rattle.word_bits.specs.Word.{shifted}
use Rattle.cnf_gates.specs.declared.bit.Bit.{Bit}
use Rattle.cnf_gates.specs.declared.bit.Bit.TheVariants.{Constant}
use Rattle.cnf_gates.specs.Gates.{Built}
use Rattle.cnf_gates.specs.Meaning.{bit_value}
use Rattle.cnf_gates.specs.Growth.{AllBelow, Ready}
use Rattle.cnf_gates.proofs.Giving.{all_later}
use Rattle.bit_blast.specs.declared.circuits.Connective.TheVariants.{And}
use Rattle.bit_blast.specs.Words.{filled, moved}
use Rattle.bit_blast.specs.Circuits.{each_of, add_of, product_from}
use Rattle.bit_blast.specs.Exactness.{number_of}
use Rattle.bit_blast.proofs.Steps.{Goes-none, Goes-then, WordGives}
use Rattle.bit_blast.proofs.Numbers.{number_lt}
use Rattle.bit_blast.proofs.Each.{each_gives}
use Rattle.bit_blast.proofs.Sums.{add_gives}
use Rattle.bit_blast.proofs.Moves.{length-filled, number_of-filled, AllBelow-filled, length-moved, AllBelow-moved, moved_is}

-- one row: y times x, shifted left by j places
row_value : (x j : ℕ) (y : Bool) → bit_and (shifted Lsl x j) (from_bool y * (2 ^ 32 - 1)) ≡ from_bool y * x * 2 ^ j % 2 ^ 32
row_value x j true =
    ap (bit_and (shifted Lsl x j)) (let e : 1 * (2 ^ 32 - 1) ≡ 2 ^ 32 - 1 = omega arith in e) ∙ and_mask (shifted Lsl x j) 32
    ∙ (let e : x * 2 ^ j % 2 ^ 32 % 2 ^ 32 ≡ x * 2 ^ j % 2 ^ 32 = omega arith in e) ∙ ap (λ v. v * 2 ^ j % 2 ^ 32) (let e : x ≡ 1 * x = omega arith in e)
row_value x j false =
    ap (bit_and (shifted Lsl x j)) (let e : 0 * (2 ^ 32 - 1) ≡ 2 ^ 0 - 1 = omega arith in e) ∙ and_mask (shifted Lsl x j) 0
    ∙ (let e : shifted Lsl x j % 1 ≡ 0 * x * 2 ^ j % 2 ^ 32 = omega arith in e)

-- the sum after one more row
next_row : (s x y p a t r : ℕ) → r ≡ y * x * p % 2 ^ 32 → t ≡ (s + r + 0) % 2 ^ 32 → (t + x * (p * 2) * a) % 2 ^ 32 ≡ (s + x * p * (y + 2 * a)) % 2 ^ 32
next_row s x y p a t r e f =
    let q : ℕ = y * x * p / 2 ^ 32 in
    let k : ℕ = (s + r + 0) / 2 ^ 32 in
    let whole : y * x * p / 2 ^ 32 * 2 ^ 32 + y * x * p % 2 ^ 32 ≡ y * x * p = div-add-mod' (y * x * p) (2 ^ 32) in
    let sum : (s + r + 0) / 2 ^ 32 * 2 ^ 32 + (s + r + 0) % 2 ^ 32 ≡ s + r + 0 = div-add-mod' (s + r + 0) (2 ^ 32) in
    let same : s + x * p * (y + 2 * a) ≡ (t + x * (p * 2) * a) + (k + q) * 2 ^ 32 = omega (arith, whole, sum, e, f) in
    sym (ap (λ v. v % 2 ^ 32) same ∙ add-mul-mod_self_right (t + x * (p * 2) * a) (k + q) (2 ^ 32))

abbrev behind_added : ℕ → List Bit → List Bit → List Bit → Built → Built × List Bit
behind_added j xs ys sum d = product_from d (j + 1) xs ys sum

abbrev behind_row : ℕ → List Bit → List Bit → List Bit → List Bit → Built → Built × List Bit
behind_row j xs ys sum row d = let added = add_of d sum row (Constant false) in behind_added j xs ys added.1.value added.0

pub product_gives : (low : ℕ) (b : Built) (j : ℕ) (xs ys sum : List Bit) → j + length ys ≤ 32 → length xs ≡ 32 → length sum ≡ 32 → Ready low b → AllBelow b.variables xs → AllBelow b.variables ys → AllBelow b.variables sum
    → WordGives (193 * length ys) b (λ d. product_from d j xs ys sum) 32 (λ m. (number_of m sum + number_of m xs * 2 ^ j * number_of m ys) % 2 ^ 32)
product_gives low b j xs [] sum h wx ws k px py ps = record {
  goes = Goes-none 0 b sum;
  below = ps;
  length_is = ws;
  value = λ m _. sym (ap (λ v. v % 2 ^ 32) (let e : number_of m sum + number_of m xs * 2 ^ j * 0 ≡ number_of m sum = omega arith in e) ∙ mod-eq_of_lt (number_lt m sum ws));
}
product_gives low b j xs (y ∷ ys) sum h wx ws k px py ps =
    let bits = moved Lsl j xs in
    let wb = length-moved Lsl j xs (omega arith) wx in
    let all = filled y in
    let wy = length-filled y in
    let row = each_of And b bits all in
    let rg = each_gives low b And bits all (wb ∙ sym wy) k (AllBelow-moved b.variables Lsl j xs px) (AllBelow-filled b.variables y py.0) in
    let g = rg.goes.grows in
    let kr = g.ready low k in
    let added = add_of row.0 sum row.1 (Constant false) in
    let ag = add_gives low row.0 sum row.1 (Constant false) ws (rg.length_is ∙ wb) kr (all_later (length bits) b row.0 sum g ps) rg.below tt in
    let h_a = ag.goes.grows in
    let rest = product_from added.0 (j + 1) xs ys added.1.value in
    let pg = product_gives low added.0 (j + 1) xs ys added.1.value (omega arith) wx ag.wide (h_a.ready low kr) (all_later 161 row.0 added.0 xs h_a (all_later (length bits) b row.0 xs g px)) (all_later 161 row.0 added.0 ys h_a (all_later (length bits) b row.0 ys g py.1)) ag.below in
    record {
      goes = Goes-then (193 * suc (length ys)) (length bits) (161 + 193 * length ys) b (λ d. each_of And d bits all) (behind_row j xs ys sum) (omega arith) rg.goes
          (Goes-then (161 + 193 * length ys) 161 (193 * length ys) row.0 (λ d. add_of d sum row.1 (Constant false)) (λ t. behind_added j xs ys t.value) (omega arith) ag.goes pg.goes);
      below = pg.below;
      length_is = pg.length_is;
      value = λ m holds.
          let in_a = pg.goes.grows.kept m holds in
          let x : ℕ = number_of m xs in
          let r : number_of m row.1 ≡ from_bool (bit_value m y) * x * 2 ^ j % 2 ^ 32 =
          rg.value m (h_a.kept m in_a) ∙ ap (λ v. bit_and v (number_of m all)) (moved_is m Lsl xs j tt (omega arith) wx) ∙ ap (bit_and (shifted Lsl x j)) (number_of-filled m y) ∙ row_value x j (bit_value m y) in
          pg.value m holds
          ∙ ap (λ p. (number_of m added.1.value + x * p * number_of m ys) % 2 ^ 32) (pow-add 2 j 1)
          ∙ next_row (number_of m sum) x (from_bool (bit_value m y)) (2 ^ j) (number_of m ys) (number_of m added.1.value) (number_of m row.1) r (ag.value m in_a);
    }
