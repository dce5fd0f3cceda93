-- The loop and the shifts that read a number and the flags from a model give the specification's values.
use Rattle.std.proofs.Common.{◌≡◌, ℕ, zero, suc, ◌+◌, ◌-◌, ◌*◌, ◌^◌, ◌%◌, ◌<◌, ◌≤◌, Bool, List, [], ◌∷◌, ◌++◌, length, refl, sym, ap, ◌∙◌, arith, subst, ⊎_elim}
use Rattle.std.proofs.Math.Nat.{mod-eq_of_lt}
use Rattle.std.specs.Int.{from_bool, bit_at}
use Rattle.word_bits.proofs.Words.{pow_le}
use Rattle.cnf_gates.specs.declared.bit.Bit.{Bit}
use Rattle.cnf_gates.specs.declared.bit.Bit.TheVariants.{Signed}
use Rattle.window_exec.specs.declared.state.WState.{WState}
use Rattle.window_exec.specs.State.{values_of}
use Rattle.bit_blast.specs.Exactness.{SameOver, number_of, start_values}
use Rattle.bit_blast.specs.Forming.{word}
use Rattle.bit_blast.specs.Differences.{variables_from, words_from, input_word, start_bits}
use Rattle.bit_blast.proofs.Numbers.{number_of-append, number_of-lt}
use Rattle.bit_blast.proofs.Ends.{variables_from-more, length-words_from, length-variables_from}
use Rattle.bit_blast.proofs.Start.{word-words_from, variable_value}
use Rattle.bit_blast.proofs.Formed.{register_value}
use Rattle.thumb_model.proofs.Held.{bool_small}

-- the number after one more bit
pub one_bit : (m : ℕ → Bool) (first i n : ℕ) → i < 32 → n ≡ number_of m (variables_from first i) → n + from_bool (m (first + i)) * 2 ^ i % 2 ^ 32 ≡ number_of m (variables_from first (i + 1))
one_bit m first i n h e =
    let x : ℕ = from_bool (m (first + i)) in
    let bit : x < 2 = bool_small (m (first + i)) in
    let p : 2 ^ i ≤ 2 ^ 31 = pow_le i 31 (omega arith) in
    let small : x * 2 ^ i % 2 ^ 32 ≡ x * 2 ^ i = mod-eq_of_lt (small_product x (2 ^ i) bit p) in
    let whole : number_of m (variables_from first i ++ Signed (2 * (first + i)) ∷ []) ≡ number_of m (variables_from first i) + 2 ^ length (variables_from first i) * (x + 2 * 0) =
    number_of-append m (variables_from first i) (Signed (2 * (first + i)) ∷ []) ∙ ap (λ y. number_of m (variables_from first i) + 2 ^ length (variables_from first i) * (y + 2 * 0)) (variable_value m (first + i)) in
    ap (λ v. n + v) small ∙ ap (λ v. v + x * 2 ^ i) e
    ∙ (let g : number_of m (variables_from first i) + x * 2 ^ i ≡ number_of m (variables_from first i) + 2 ^ i * (x + 2 * 0) = omega arith in g)
    ∙ ap (λ k. number_of m (variables_from first i) + 2 ^ k * (x + 2 * 0)) (sym (length-variables_from first i))
    ∙ sym whole ∙ ap (number_of m) (variables_from-more first i)
  where
    small_product : (x p : ℕ) → x < 2 → p ≤ 2 ^ 31 → x * p < 2 ^ 32
    small_product zero p h k = omega arith
    small_product (suc zero) p h k = omega arith
    small_product (suc (suc x)) p h k = absurd (omega arith)

pub number_fits : (m : ℕ → Bool) (first i : ℕ) → i ≤ 32 → number_of m (variables_from first i) < 2 ^ 32
number_fits m first i h =
    let below : number_of m (variables_from first i) < 2 ^ i = subst (λ k. number_of m (variables_from first i) < 2 ^ k) (length-variables_from first i) (number_of-lt m (variables_from first i)) in
    let p : 2 ^ i ≤ 2 ^ 32 = pow_le i 32 h in
    omega arith

pub register_given : (m : ℕ → Bool) (k r n : ℕ) → r ≤ 3 → r < k → n ≡ number_of m (variables_from (32 * r) 32) → n ≡ start_values m k r
unfolding input_word
register_given m k r n h there e =
    e ∙ ap (λ v. number_of m (input_word v)) (let g : 32 * r ≡ 0 + 32 * r = omega arith in g) ∙ ap (number_of m) (sym (word-words_from 0 k r there)) ∙ register_value m (start_bits k) r (omega arith)

no_word : (ws : List (List Bit)) (r : ℕ) → length ws ≤ r → word ws r ≡ []
no_word [] r h = refl
no_word (w ∷ ws) zero h = absurd (omega arith)
no_word (w ∷ ws) (suc r) h = no_word ws r (omega arith)

pub register_absent : (m : ℕ → Bool) (k r : ℕ) → r ≤ 3 → k ≤ r → (let z : ℕ = 0 in z) ≡ start_values m k r
register_absent m k r h far = sym (ap (number_of m) (no_word (words_from 0 k) r (subst (λ n. n ≤ r) (sym (length-words_from 0 k)) far))) ∙ register_value m (start_bits k) r (omega arith)

abbrev state_with : (a b c d nzcv : ℕ) → WState
state_with a b c d nzcv = record { r = a ∷ b ∷ c ∷ d ∷ []; nzcv = nzcv }

-- registers and flags that were read one by one make the state that the model gives
pub state_given : (m : ℕ → Bool) (k l a b c d nzcv : ℕ) → l ≡ k → a ≡ start_values m k 0 → b ≡ start_values m k 1 → c ≡ start_values m k 2 → d ≡ start_values m k 3
    → bit_at nzcv 3 ≡ from_bool (m (32 * l)) → bit_at nzcv 2 ≡ from_bool (m (32 * l + 1)) → bit_at nzcv 1 ≡ from_bool (m (32 * l + 2)) → bit_at nzcv 0 ≡ from_bool (m (32 * l + 3))
    → SameOver 4 (values_of (state_with a b c d nzcv)) (start_values m k)
state_given m k l a b c d nzcv same ra rb rc rd n z g v = λ x p.
    ⊎_elim
    (λ (h : (x < 4) × (x < 15)). register x h.0)
    (λ (h : (15 ≤ x) × (x < 19)).
    let least : 15 ≤ x = h.0 in
    let below : x < 19 = h.1 in
    let e : 15 + (x - 15) ≡ x = omega arith in
    ap (values_of (state_with a b c d nzcv)) (sym e) ∙ flag (x - 15) (omega arith) ∙ ap (start_values m k) e)
    p
  where
    register : (x : ℕ) → x < 4 → values_of (state_with a b c d nzcv) x ≡ start_values m k x
    register zero h = ra
    register (suc zero) h = rb
    register (suc (suc zero)) h = rc
    register (suc (suc (suc zero))) h = rd
    register (suc (suc (suc (suc x)))) h = absurd (omega arith)

    flag : (j : ℕ) → j < 4 → values_of (state_with a b c d nzcv) (15 + j) ≡ start_values m k (15 + j)
    flag zero h = n ∙ ap (λ i. from_bool (m (32 * i))) same ∙ sym (variable_value m (32 * k))
    flag (suc zero) h = z ∙ ap (λ i. from_bool (m (32 * i + 1))) same ∙ sym (variable_value m (32 * k + 1))
    flag (suc (suc zero)) h = g ∙ ap (λ i. from_bool (m (32 * i + 2))) same ∙ sym (variable_value m (32 * k + 2))
    flag (suc (suc (suc zero))) h = v ∙ ap (λ i. from_bool (m (32 * i + 3))) same ∙ sym (variable_value m (32 * k + 3))
    flag (suc (suc (suc (suc j)))) h = absurd (omega arith)
