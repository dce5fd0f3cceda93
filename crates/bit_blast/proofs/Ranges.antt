-- The clauses of a range are true exactly where the bits hold a number of the range; the proof goes from the highest bit down.
use Rattle.std.proofs.Common.{◌≡◌, ℕ, zero, suc, ◌+◌, ◌-◌, ◌*◌, ◌^◌, ◌/◌, ◌%◌, ◌<◌, ◌≤◌, List, [], ◌∷◌, ◌++◌, Bool, true, false, ◌&&◌, ◌||◌, eqb, leb, ltb, refl, sym, ap, ◌∙◌, arith, subst, ⊎_elim}
use Rattle.std.proofs.lemmas.Nat.{pow_pos, shr-shr, le-div}
use Rattle.std.proofs.Math.Nat.{div-mul-le_self}
use Rattle.std.proofs.lemmas.Bool.{eqb-true, eq-eqb, cond-true, cond-false, le-leb, leb-true, lt-leb, lt-ltb, ltb-true, cases_lt}
use Rattle.std.specs.Int.{from_bool}
use Rattle.cnf_gates.specs.declared.bit.Bit.{Bit}
use Rattle.cnf_gates.specs.Gates.{Built, or_clause_of, always_true}
use Rattle.cnf_gates.specs.Meaning.{bit_value, any_value, all_true}
use Rattle.cnf_gates.specs.Growth.{AllBelow, Ready}
use Rattle.cnf_gates.proofs.Chosen.{all_true-or_clause_of, Ready-or_clause_of}
use Rattle.cnf_gates.proofs.Tables.{and_true, and_false}
use Rattle.thumb_instr.specs.Items.{has}
use Rattle.bit_blast.specs.Words.{bit_of}
use Rattle.bit_blast.specs.Differences.{at_least_from}
use Rattle.bit_blast.specs.Exactness.{number_of}
use Rattle.bit_blast.proofs.Numbers.{number_at, bit_below, AllBelow-append}
use Rattle.bit_blast.proofs.Holes.{by_test}
use Rattle.bit_blast.proofs.Telling.{any-append}
use Rattle.common_lemmas.proofs.Booleans.{or_false, or_true, same_tests}

-- ---- only the clauses change

pub or_variables : (b : Built) (bits : List Bit) → (or_clause_of b bits).variables ≡ b.variables
or_variables b bits = by_test (λ (c : Built). c.variables ≡ b.variables) (always_true bits) b _ (λ _. refl) (λ _. refl)

pub range_variables : (xs : List Bit) (least j : ℕ) (higher : List Bit) (b : Built) → (at_least_from xs least j higher b).variables ≡ b.variables
range_variables xs least zero higher b = refl
range_variables xs least (suc j) higher b =
    by_test (λ (c : Built). c.variables ≡ b.variables) (has least j) _ _
    (λ _. range_variables xs least j higher (or_clause_of b (bit_of xs j ∷ higher)) ∙ or_variables b (bit_of xs j ∷ higher))
    (λ _. range_variables xs least j (higher ++ bit_of xs j ∷ []) b)

pub range_ready : (low : ℕ) (xs : List Bit) (least j : ℕ) (higher : List Bit) (b : Built) → Ready low b → AllBelow b.variables xs → AllBelow b.variables higher → Ready low (at_least_from xs least j higher b)
range_ready low xs least zero higher b k px ph = k
range_ready low xs least (suc j) higher b k px ph =
    let x = bit_of xs j in
    let px_j = bit_below b.variables xs j px in
    let same = or_variables b (x ∷ higher) in
    by_test (Ready low) (has least j) _ _
    (λ _. range_ready low xs least j higher (or_clause_of b (x ∷ higher)) (Ready-or_clause_of low b (x ∷ higher) (px_j, ph) k) (subst (λ v. AllBelow v xs) (sym same) px) (subst (λ v. AllBelow v higher) (sym same) ph))
    (λ _. range_ready low xs least j (higher ++ x ∷ []) b k px (AllBelow-append b.variables higher (x ∷ []) ph (px_j, tt)))

-- ---- the meaning of the clauses

-- if some clause is false already, some clause is false at the end
lost : (m : ℕ → Bool) (xs : List Bit) (least j : ℕ) (higher : List Bit) (b : Built) → all_true m b.clauses ≡ false → all_true m (at_least_from xs least j higher b).clauses ≡ false
lost m xs least zero higher b h = h
lost m xs least (suc j) higher b h =
    let x = bit_of xs j in
    by_test (λ (c : Built). all_true m c.clauses ≡ false) (has least j) _ _
    (λ _. lost m xs least j higher (or_clause_of b (x ∷ higher)) (all_true-or_clause_of m b (x ∷ higher) ∙ ap (λ t. t && any_value m (x ∷ higher)) h))
    (λ _. lost m xs least j (higher ++ x ∷ []) b h)

-- one place: l and y are the least number and the bits' number without the bits below the place, and x is the lowest bit of y

-- where the bit is set in the least number
set_place : (l y : ℕ) (x above : Bool) → l % 2 ≡ 1 → from_bool x ≡ y % 2 → l / 2 ≤ y / 2 → above ≡ ltb (l / 2) (y / 2) → (x || above) ≡ leb l y
set_place l y true above one bit le e = sym (le-leb l y (let b : 1 ≡ y % 2 = bit in omega arith))
set_place l y false above one bit le e =
    e ∙ same_tests (ltb (l / 2) (y / 2)) (leb l y) (λ t. let p : l / 2 < y / 2 = ltb-true (l / 2) (y / 2) t in le-leb l y (omega arith))
    (λ t. let p : l ≤ y = leb-true l y t in let b : 0 ≡ y % 2 = bit in lt-ltb (l / 2) (y / 2) (omega arith))

set_above : (l y : ℕ) → l % 2 ≡ 1 → l ≤ y → ltb (l / 2) (y / 2) ≡ ltb l y
set_above l y one le =
    same_tests (ltb (l / 2) (y / 2)) (ltb l y) (λ t. let p : l / 2 < y / 2 = ltb-true (l / 2) (y / 2) t in lt-ltb l y (omega arith))
    (λ t. let p : l < y = ltb-true l y t in lt-ltb (l / 2) (y / 2) (omega arith))

-- and where it is clear
clear_above : (l y : ℕ) (x above : Bool) → l % 2 ≡ 0 → from_bool x ≡ y % 2 → l / 2 ≤ y / 2 → above ≡ ltb (l / 2) (y / 2) → (above || x) ≡ ltb l y
clear_above l y true above none bit le e =
    let b : 1 ≡ y % 2 = bit in
    or_true above ∙ sym (lt-ltb l y (omega arith))
clear_above l y false above none bit le e =
    or_false above ∙ e
    ∙ same_tests (ltb (l / 2) (y / 2)) (ltb l y) (λ t. let p : l / 2 < y / 2 = ltb-true (l / 2) (y / 2) t in lt-ltb l y (omega arith))
    (λ t. let p : l < y = ltb-true l y t in let b : 0 ≡ y % 2 = bit in lt-ltb (l / 2) (y / 2) (omega arith))

low_bit_clear : (l : ℕ) → eqb (l % 2) 1 ≡ false → l % 2 ≡ 0
low_bit_clear l off = let no : l % 2 ≡ 1 → ⊥ = λ t. let on : eqb (l % 2) 1 ≡ true = eq-eqb (l % 2) 1 t in absurd cc in omega arith

at_most : (a b c : ℕ) → a ≤ b → b ≤ c → a ≤ c
at_most a b c h k = omega arith

below_by_part : (n least p : ℕ) → 0 < p → n / p < least / p → n < least
below_by_part n least p some h =
    ⊎_elim
    (λ (less : n < least). less)
    (λ (le : least ≤ n). let part : least / p ≤ n / p = le-div (least / p) n p some (at_most (least / p * p) least n (div-mul-le_self least p) le) in absurd (omega arith))
    (cases_lt n least)

pub range_says : (m : ℕ → Bool) (xs : List Bit) (least j : ℕ) (higher : List Bit) (b : Built) → least / 2 ^ j ≤ number_of m xs / 2 ^ j → any_value m higher ≡ ltb (least / 2 ^ j) (number_of m xs / 2 ^ j)
    → all_true m (at_least_from xs least j higher b).clauses ≡ (all_true m b.clauses && leb least (number_of m xs))
range_says m xs least zero higher b le e =
    and_true (all_true m b.clauses) ∙ sym (ap (λ t. all_true m b.clauses && t) (le-leb least (number_of m xs) (let e : least / 2 ^ 0 ≤ number_of m xs / 2 ^ 0 = le in omega arith)))
range_says m xs least (suc j) higher b le e =
    let n : ℕ = number_of m xs in
    let l : ℕ = least / 2 ^ j in
    let y : ℕ = n / 2 ^ j in
    let x = bit_of xs j in
    let half_l : l / 2 ≡ least / 2 ^ suc j = shr-shr least j 1 ∙ ap (λ k. least / 2 ^ k) (let g : j + 1 ≡ suc j = omega arith in g) in
    let half_y : y / 2 ≡ n / 2 ^ suc j = shr-shr n j 1 ∙ ap (λ k. n / 2 ^ k) (let g : j + 1 ≡ suc j = omega arith in g) in
    let above_le : l / 2 ≤ y / 2 = rw (half_l, half_y) le in
    let above : any_value m higher ≡ ltb (l / 2) (y / 2) = rw (half_l, half_y) e in
    let bit : from_bool (bit_value m x) ≡ y % 2 = number_at m xs j in
    by_test (λ (c : Built). all_true m c.clauses ≡ (all_true m b.clauses && leb least n)) (has least j) _ _
    (λ on.
    let one : l % 2 ≡ 1 = eqb-true (l % 2) 1 on in
    let d = or_clause_of b (x ∷ higher) in
    let clause : all_true m d.clauses ≡ (all_true m b.clauses && leb l y) = all_true-or_clause_of m b (x ∷ higher) ∙ ap (λ t. all_true m b.clauses && t) (set_place l y (bit_value m x) (any_value m higher) one bit above_le above) in
    ⊎_elim
    (λ (less : y < l).
    let never : leb l y ≡ false = lt-leb l y less in
    let gone : all_true m d.clauses ≡ false = clause ∙ ap (λ t. all_true m b.clauses && t) never ∙ sym (and_false (all_true m b.clauses)) in
    let small : n < least = below_by_part n least (2 ^ j) (pow_pos j) less in
    lost m xs least j higher d gone ∙ and_false (all_true m b.clauses) ∙ sym (ap (λ t. all_true m b.clauses && t) (lt-leb least n small)))
    (λ (more : l ≤ y).
    range_says m xs least j higher d more (above ∙ set_above l y one more)
    ∙ ap (λ t. t && leb least n) (clause ∙ ap (λ t. all_true m b.clauses && t) (le-leb l y more) ∙ sym (and_true (all_true m b.clauses))))
    (cases_lt y l))
    (λ off.
    let none : l % 2 ≡ 0 = low_bit_clear l off in
    range_says m xs least j (higher ++ x ∷ []) b (omega arith)
    (any-append m higher (x ∷ []) ∙ ap (λ t. any_value m higher || t) (or_false (bit_value m x)) ∙ clear_above l y (bit_value m x) (any_value m higher) none bit above_le above))

-- ---- the loop over the places

pub set_step : (xs : List Bit) (least i : ℕ) (higher : List Bit) (b c r : Built) → i < 8 → has least (7 - i) ≡ true → c ≡ or_clause_of b (bit_of xs (7 - i) ∷ higher)
    → at_least_from xs least (8 - i) higher b ≡ r → at_least_from xs least (8 - (i + 1)) higher c ≡ r
set_step xs least i higher b c r h on e f =
    let j : ℕ = 7 - i in
    let here : 8 - i ≡ suc j = omega arith in
    let next : 8 - (i + 1) ≡ j = omega arith in
    ap (λ k. at_least_from xs least k higher c) next ∙ ap (at_least_from xs least j higher) e
    ∙ sym (cond-true (has least j) (at_least_from xs least j higher (or_clause_of b (bit_of xs j ∷ higher))) (at_least_from xs least j (higher ++ bit_of xs j ∷ []) b) on)
    ∙ sym (ap (λ k. at_least_from xs least k higher b) here) ∙ f

pub clear_step : (xs : List Bit) (least i : ℕ) (higher more : List Bit) (b r : Built) → i < 8 → has least (7 - i) ≡ false → more ≡ higher ++ bit_of xs (7 - i) ∷ []
    → at_least_from xs least (8 - i) higher b ≡ r → at_least_from xs least (8 - (i + 1)) more b ≡ r
clear_step xs least i higher more b r h off e f =
    let j : ℕ = 7 - i in
    let here : 8 - i ≡ suc j = omega arith in
    let next : 8 - (i + 1) ≡ j = omega arith in
    ap (λ k. at_least_from xs least k more b) next ∙ ap (λ l. at_least_from xs least j l b) e
    ∙ sym (cond-false (has least j) (at_least_from xs least j higher (or_clause_of b (bit_of xs j ∷ higher))) (at_least_from xs least j (higher ++ bit_of xs j ∷ []) b) off)
    ∙ sym (ap (λ k. at_least_from xs least k higher b) here) ∙ f
