-- The formula of sides with holes: its models are exactly the values of the symbol and the states that tell the sides with that value apart.
use Rattle.std.proofs.Common.{◌≡◌, ℕ, ◌+◌, ◌-◌, ◌*◌, ◌^◌, ◌/◌, ◌%◌, ◌<◌, ◌≤◌, ◌↔◌, List, [], Bool, true, false, ◌&&◌, cond, eqb, leb, ltb, length, take, refl, sym, ap, ◌∙◌, arith, ⊎_elim, subst}
use Rattle.std.proofs.lemmas.Bool.{and_parts, and_from, cond-true, cond-false, lt-ltb, le-ltb, le-leb, leb-true, cases_eq}
use Rattle.std.proofs.lemmas.List.{length-append, length-map}
use Rattle.std.specs.Int.{bit_at}
use Rattle.thumb_instr.proofs.Registers.{same_number}
use Rattle.thumb_instr.specs.declared.instr.Instr.{Instr}
use Rattle.thumb_model.specs.Effect.{Values, AreWords, after_all, AreOver}
use Rattle.window_exec.specs.State.{Tells}
use Rattle.cnf_gates.specs.declared.bit.Bit.{Bit}
use Rattle.cnf_gates.specs.declared.bit.Bit.TheVariants.{Constant}
use Rattle.cnf_gates.specs.Gates.{Built}
use Rattle.cnf_gates.specs.Meaning.{all_true}
use Rattle.cnf_gates.specs.Growth.{AllBelow, Ready}
use Rattle.cnf_gates.proofs.Giving.{Ready-inputs}
use Rattle.bit_blast.specs.declared.slots.Symbol.{Symbol}
use Rattle.bit_blast.specs.Slots.{Byte, slots, instance}
use Rattle.bit_blast.specs.Words.{copies, inverted}
use Rattle.bit_blast.specs.Differences.{variables_from, start_bits, start_built, low_inputs, symbol_bits, symbol_built, at_least, range_built, family_formula}
use Rattle.bit_blast.specs.Exactness.{number_of, start_values, IsMask, IsMaskOver, SameOver, HasNoModel, value_at, FamilyModelsTell, FamilyTellersAreModels, AreEqualForAll}
use Rattle.bit_blast.proofs.Ends.{length-variables_from}
use Rattle.bit_blast.proofs.Numbers.{number_of-lt, number_of-append, number_of-zeros, number_of-inverted, length-copies, AllBelow-append, AllBelow-copies, AllBelow-inverted}
use Rattle.bit_blast.proofs.Formed.{AreOf, AreOf-more}
use Rattle.bit_blast.proofs.Ranges.{range_variables, range_ready, range_says}
use Rattle.bit_blast.proofs.TwoSides.{IsStart, model_tells, teller_is_model, few_from, same_states_tell}
use Rattle.bit_blast.proofs.Holes.{slots_over, filled_over}
use Rattle.bit_blast.proofs.Start.{start_are, start_words, values_same, given_by, given_back, below-variables_from, number_of-bits, number_same}

-- ---- the symbol's value

pub value_below : (m : ℕ → Bool) (k : ℕ) → value_at m k < 256
value_below m k = let p : number_of m (symbol_bits k) < 2 ^ length (symbol_bits k) = number_of-lt m (symbol_bits k) in subst (λ n. number_of m (symbol_bits k) < 2 ^ n) (length-variables_from (32 * k + 4) 8) p

abbrev pub value_by : ℕ → (ℕ → Bool) → Byte
value_by k m = record { number = value_at m k; least = omega arith; below = value_below m k }

-- the bits above the low ones are False
value_is : (m : ℕ → Bool) (k : ℕ) → number_of m (low_inputs (32 * k + 4) 8) ≡ value_at m k
unfolding low_inputs
value_is m k =
    let xs : List Bit = symbol_bits k in
    number_of-append m xs (copies 24 (Constant false)) ∙ ap (λ n. number_of m xs + 2 ^ length xs * n) (number_of-zeros m 24) ∙ (let e : number_of m xs + 2 ^ length xs * 0 ≡ number_of m xs = omega arith in e)

pub low_inputs_wide : (v n : ℕ) → n ≤ 32 → length (low_inputs v n) ≡ 32
unfolding low_inputs
low_inputs_wide v n h =
    length-append (variables_from v n) (copies (32 - n) (Constant false)) ∙ ap (λ l. l + length (copies (32 - n) (Constant false))) (length-variables_from v n) ∙ ap (λ l. n + l) (length-copies (32 - n) (Constant false))
    ∙ (let e : n + (32 - n) ≡ 32 = omega arith in e)

-- ---- the range

bits_below : (k v : ℕ) → 32 * k + 12 ≤ v → AllBelow v (symbol_bits k)
bits_below k v h = below-variables_from (32 * k + 4) 8 v (omega arith)

contrary_number : (m : ℕ → Bool) (k : ℕ) → number_of m (inverted (symbol_bits k)) ≡ 255 - value_at m k
contrary_number m k =
    let e : number_of m (inverted (symbol_bits k)) + value_at m k + 1 ≡ 2 ^ 8 = number_of-inverted m (symbol_bits k) ∙ ap (λ n. 2 ^ n) (length-variables_from (32 * k + 4) 8) in
    omega arith

-- a number below 256 has no bits above the lowest eight
nothing_above : (a b : ℕ) → a < 256 → b < 256 → (a / 2 ^ 8 ≤ b / 2 ^ 8) × (let f : Bool = ltb 0 0 in f ≡ ltb (a / 2 ^ 8) (b / 2 ^ 8))
nothing_above a b h k =
    let x : a / 2 ^ 8 ≡ 0 = omega arith in
    let y : b / 2 ^ 8 ≡ 0 = omega arith in
    (omega arith, ap (λ n. ltb n 0) (sym x) ∙ ap (λ n. ltb (a / 2 ^ 8) n) (sym y))

range_tests : (m : ℕ → Bool) (k : ℕ) (s : Symbol) → s.low < 256 → all_true m (range_built k s).clauses ≡ (leb s.low (value_at m k) && leb (255 - s.high) (number_of m (inverted (symbol_bits k))))
unfolding at_least
range_tests m k s h =
    let xs : List Bit = symbol_bits k in
    let n : ℕ = value_at m k in
    let c : ℕ = number_of m (inverted xs) in
    let small : n < 256 = value_below m k in
    let is : c ≡ 255 - n = contrary_number m k in
    let first = nothing_above s.low n h small in
    let second = nothing_above (255 - s.high) c (omega arith) (omega arith) in
    let b = at_least xs s.low (symbol_built k) in
    range_says m (inverted xs) (255 - s.high) 8 [] b second.0 second.1 ∙ ap (λ t. t && leb (255 - s.high) c) (range_says m xs s.low 8 [] (symbol_built k) first.0 first.1)

pub range_shows : (m : ℕ → Bool) (k : ℕ) (s : Symbol) → s.low < 256 → all_true m (range_built k s).clauses ≡ true → (s.low ≤ value_at m k) × (value_at m k ≤ s.high)
range_shows m k s h t =
    let n : ℕ = value_at m k in
    let c : ℕ = number_of m (inverted (symbol_bits k)) in
    let small : n < 256 = value_below m k in
    let is : c ≡ 255 - n = contrary_number m k in
    let parts = and_parts (leb s.low n) (leb (255 - s.high) c) (sym (range_tests m k s h) ∙ t) in
    let least : s.low ≤ n = leb-true s.low n parts.0 in
    let most : 255 - s.high ≤ c = leb-true (255 - s.high) c parts.1 in
    (least, omega arith)

pub range_holds : (m : ℕ → Bool) (k : ℕ) (s : Symbol) → s.low < 256 → s.low ≤ value_at m k → value_at m k ≤ s.high → all_true m (range_built k s).clauses ≡ true
range_holds m k s h least most =
    let n : ℕ = value_at m k in
    let c : ℕ = number_of m (inverted (symbol_bits k)) in
    let is : c ≡ 255 - n = contrary_number m k in
    range_tests m k s h ∙ and_from (leb s.low n) (leb (255 - s.high) c) (le-leb s.low n least) (le-leb (255 - s.high) c (omega arith))

-- ---- the start

range_count : (k : ℕ) (s : Symbol) → (range_built k s).variables ≡ 32 * k + 12
unfolding at_least
range_count k s = range_variables (inverted (symbol_bits k)) (255 - s.high) 8 [] (at_least (symbol_bits k) s.low (symbol_built k)) ∙ range_variables (symbol_bits k) s.low 8 [] (symbol_built k)

pub family_start : (k : ℕ) (s : Symbol) → IsStart (32 * k + 12) k (range_built k s) (low_inputs (32 * k + 4) 8) (value_by k)
unfolding low_inputs at_least
family_start k s =
    let low : ℕ = 32 * k + 12 in
    let xs : List Bit = symbol_bits k in
    let b = at_least xs s.low (symbol_built k) in
    let count : b.variables ≡ low = range_variables xs s.low 8 [] (symbol_built k) in
    let bits : AllBelow low xs = bits_below k low (omega arith) in
    let first : Ready low b = range_ready low xs s.low 8 [] (symbol_built k) (Ready-inputs low) bits tt in
    record {
      ready = range_ready low (inverted xs) (255 - s.high) 8 [] b first (subst (λ v. AllBelow v (inverted xs)) (sym count) (AllBelow-inverted low xs bits)) tt;
      are = subst (λ v. AreOf v (start_bits k)) (sym (range_count k s)) (AreOf-more (32 * k + 4) low (start_bits k) (omega arith) (start_are k));
      wide = low_inputs_wide (32 * k + 4) 8 (omega arith);
      below = subst (λ v. AllBelow v (low_inputs (32 * k + 4) 8)) (sym (range_count k s)) (AllBelow-append low xs (copies 24 (Constant false)) bits (AllBelow-copies low 24 (Constant false) tt));
      is = λ m. value_is m k;
    }

-- ---- models tell

pub family_models_tell : (left right : List Instr) (s : Symbol) (mask k : ℕ) → s.low < 256 → AreOver k left → AreOver k right → FamilyModelsTell (family_formula left right s mask k) left right s mask k
family_models_tell left right s mask k h over_left over_right m t =
    let r = model_tells (32 * k + 12) k (range_built k s) (low_inputs (32 * k + 4) 8) (value_by k) (family_start k s) (slots s.number left) (slots s.number right) mask (slots_over k s.number left over_left) (slots_over k s.number right over_right) m t in
    (value_by k m, refl, range_shows m k s h r.0, start_words m k, r.1)

-- ---- and tellers are models

-- the truth values that stand for a value of the symbol and a state
abbrev both_given : ℕ → Byte → Values → ℕ → Bool
both_given k x v t = cond (ltb t (32 * k + 4)) (given_by k v t) (eqb (bit_at x.number (t - (32 * k + 4))) 1)

state_agrees : (k : ℕ) (x : Byte) (v : Values) (t : ℕ) → t < 32 * k + 4 → both_given k x v t ≡ given_by k v t
state_agrees k x v t h = cond-true (ltb t (32 * k + 4)) _ _ (lt-ltb t (32 * k + 4) h)

value_agrees : (k : ℕ) (x : Byte) (v : Values) (i : ℕ) → both_given k x v (32 * k + 4 + i) ≡ eqb (bit_at x.number (0 + i)) 1
value_agrees k x v i =
    cond-false (ltb (32 * k + 4 + i) (32 * k + 4)) _ _ (le-ltb (32 * k + 4 + i) (32 * k + 4) (omega arith)) ∙ ap (λ j. eqb (bit_at x.number j) 1) (let e : 32 * k + 4 + i - (32 * k + 4) ≡ 0 + i = omega arith in e)

value_back : (k : ℕ) (x : Byte) (v : Values) → value_at (both_given k x v) k ≡ x.number
value_back k x v =
    let small : x.number < 256 = x.below in
    number_of-bits (both_given k x v) (32 * k + 4) 8 x.number 0 (λ i p. value_agrees k x v i) ∙ (let e : x.number / 2 ^ 0 % 2 ^ 8 ≡ x.number = omega arith in e)

-- truth values that agree with these on the variables of the start give the same value and state
module _ (k : ℕ) (x : Byte) (v : Values) (n : ℕ → Bool) (agree : (u : ℕ) → u < 32 * k + 12 → n u ≡ both_given k x v u) where
  value_given : value_at n k ≡ x.number
  value_given = number_same n (both_given k x v) (32 * k + 12) (symbol_bits k) agree (bits_below k (32 * k + 12) (omega arith)) ∙ value_back k x v

  state_given : AreWords v → SameOver k (start_values n k) v
  state_given are = λ i p. values_same n (given_by k v) (32 * k + 4) (start_bits k) i (λ u q. agree u (omega arith) ∙ state_agrees k x v u q) (start_are k) ∙ given_back k v are i p

pub family_tellers_are_models : (left right : List Instr) (s : Symbol) (mask k : ℕ) → s.low < 256 → AreOver k left → AreOver k right → IsMask mask → IsMaskOver k mask
    → FamilyTellersAreModels (family_formula left right s mask k) left right s mask k
family_tellers_are_models left right s mask k h over_left over_right in_masks over x within v are t =
    let low : ℕ = 32 * k + 12 in
    let m : ℕ → Bool = both_given k x v in
    let r = teller_is_model low k (range_built k s) (low_inputs (32 * k + 4) 8) (value_by k) (family_start k s) (slots s.number left) (slots s.number right) mask (slots_over k s.number left over_left) (slots_over k s.number right over_right) x v m in_masks over
    (λ n agree.
    let e : value_at n k ≡ x.number = value_given k x v n agree in
    (same_number (value_by k n) x e, state_given k x v n agree are, range_holds n k s h (subst (λ y. s.low ≤ y) (sym e) within.0) (subst (λ y. y ≤ s.high) (sym e) within.1)))
    t in
    (r.0, r.2, sym (value_given k x v r.0 r.1), state_given k x v r.0 r.1 are)

-- ---- so it has no model exactly where the sides are equal for each value

pub no_model_is_equal_for_all : (left right : List Instr) (s : Symbol) (mask k : ℕ) → s.low < 256 → AreOver k left → AreOver k right → IsMask mask → IsMaskOver k mask
    → HasNoModel (family_formula left right s mask k) ↔ AreEqualForAll left right s mask
no_model_is_equal_for_all left right s mask k h over_left over_right in_masks over = (
  λ none x within v are i on.
      let l = after_all (instance s.number left x) v i in
      let r = after_all (instance s.number right x) v i in
      ⊎_elim
      (λ (e : l ≡ r). e)
      (λ (n : l ≡ r → ⊥). let t = family_tellers_are_models left right s mask k h over_left over_right in_masks over x within v are (i, on, n) in absurd (none t.0 t.1))
      (cases_eq l r),
  λ equal m c. let t = family_models_tell left right s mask k h over_left over_right m c in t.4.2 (equal t.0 t.2 (start_values m k) t.3 t.4.0 t.4.1),
)

-- ---- few variables

pub family_few_variables : (left right : List Instr) (s : Symbol) (mask k : ℕ) → length left ≤ 5 → length right ≤ 5 → k < 256 → AreOver k left → AreOver k right → (family_formula left right s mask k).variables < 200000
family_few_variables left right s mask k few_left few_right small over_left over_right =
    let count : (range_built k s).variables ≡ 32 * k + 12 = range_count k s in
    let most : (family_formula left right s mask k).variables ≤ (range_built k s).variables + (6208 * length (slots s.number left) + 6208 * length (slots s.number right) + 132) =
    few_from (32 * k + 12) k (range_built k s) (low_inputs (32 * k + 4) 8) (value_by k) (family_start k s) (slots s.number left) (slots s.number right) mask (slots_over k s.number left over_left) (slots_over k s.number right over_right) in
    let l : length (slots s.number left) ≡ length left = length-map left _ in
    let r : length (slots s.number right) ≡ length right = length-map right _ in
    omega arith

-- ---- states

-- a state with the values that a model gives tells the sides with the value that it gives apart
pub family_models_give_states : (left right : List Instr) (s : Symbol) (mask k : ℕ) → s.low < 256 → AreOver k left → AreOver k right → IsMask mask → IsMaskOver k mask → k ≤ 4 → (m : ℕ → Bool)
    → all_true m (family_formula left right s mask k).clauses ≡ true → (x : Byte) → x.number ≡ value_at m k → (v : Values) → SameOver 4 v (start_values m k) → Tells v (instance s.number left x) (instance s.number right x) mask
family_models_give_states left right s mask k h over_left over_right in_masks over few m c x is v same =
    let t = family_models_tell left right s mask k h over_left over_right m c in
    let e : t.0 ≡ x = same_number t.0 x (t.1 ∙ sym is) in
    let w = start_values m k in
    let told : Tells w (instance s.number left x) (instance s.number right x) mask = subst (λ y. Tells w (instance s.number left y) (instance s.number right y) mask) e t.4 in
    same_states_tell (instance s.number left x) (instance s.number right x) mask k (filled_over k x (slots s.number left) (slots_over k s.number left over_left)) (filled_over k x (slots s.number right) (slots_over k s.number right over_right)) in_masks over few v w same told

-- ---- the inputs of a symbol

symbol_word : (v : ℕ) → take 8 (low_inputs v 8) ≡ variables_from v 8
unfolding low_inputs
symbol_word v = refl

contrary_word : (v : ℕ) → take 8 (inverted (low_inputs v 8)) ≡ inverted (variables_from v 8)
unfolding low_inputs
contrary_word v = refl

pub symbol_done : (k : ℕ) (s : Symbol) (w c : List Bit) (b b0 b1 b2 : Built) → b ≡ start_built k → b0 ≡ record b { variables = b.variables + 8 } → w ≡ low_inputs b.variables 8 → c ≡ inverted w
    → b1 ≡ at_least (take 8 w) s.low b0 → b2 ≡ at_least (take 8 c) (255 - s.high) b1 → (b2 ≡ range_built k s) × (w ≡ low_inputs (32 * k + 4) 8)
symbol_done k s w c b b0 b1 b2 eb e0 ew ec e1 e2 =
    let start : b0 ≡ symbol_built k = e0 ∙ ap (λ (d : Built). let r : Built = record d { variables = d.variables + 8 } in r) eb ∙ ap (λ (n : ℕ). let r : Built = record { variables = n; clauses = []; gates = [] } in r) (let e : 32 * k + 4 + 8 ≡ 32 * k + 12 = omega arith in e) in
    let word : w ≡ low_inputs (32 * k + 4) 8 = ew ∙ ap (λ (d : Built). low_inputs d.variables 8) eb in
    let first : take 8 w ≡ symbol_bits k = ap (take 8) word ∙ symbol_word (32 * k + 4) in
    let second : take 8 c ≡ inverted (symbol_bits k) = ap (take 8) (ec ∙ ap inverted word) ∙ contrary_word (32 * k + 4) in (
      e2 ∙ ap (λ l. at_least l (255 - s.high) b1) second ∙ ap (at_least (inverted (symbol_bits k)) (255 - s.high)) (e1 ∙ ap (λ l. at_least l s.low b0) first ∙ ap (at_least (symbol_bits k) s.low) start),
      word,
    )
