-- The bits that both sides start from, and the truth values of their variables for a given state.
use Rattle.std.proofs.Common.{◌≡◌, ℕ, zero, suc, ◌+◌, ◌-◌, ◌*◌, ◌^◌, ◌/◌, ◌%◌, ◌<◌, ◌≤◌, List, [], ◌∷◌, Bool, true, false, cond, eqb, ltb, length, refl, sym, ap, ◌∙◌, arith, ⊎_elim, subst}
use Rattle.std.proofs.Math.Nat.{pow-suc}
use Rattle.std.proofs.lemmas.Nat.{pow_pos, shr-shr}
use Rattle.std.proofs.lemmas.Nat.Bits.{bit_at-lt}
use Rattle.std.proofs.lemmas.Bool.{cond-true, cond-false, ne_eqb, eq-eqb, lt-ltb, le-ltb, cases_eq}
use Rattle.std.specs.Int.{from_bool, bit_at}
use Rattle.clause_model.specs.Clauses.{variable_of}
use Rattle.clause_model.proofs.LiteralLaws.{literal_value-positive}
use Rattle.cnf_gates.specs.declared.bit.Bit.{Bit}
use Rattle.cnf_gates.specs.declared.bit.Bit.TheVariants.{Constant, Signed}
use Rattle.cnf_gates.specs.Meaning.{bit_value}
use Rattle.cnf_gates.specs.Growth.{BitBelow, AllBelow, Ready}
use Rattle.cnf_gates.proofs.Giving.{Ready-inputs}
use Rattle.thumb_model.specs.Effect.{Values, AreWords, n_flag, z_flag, c_flag, v_flag}
use Rattle.bit_blast.specs.Forming.{Bits, word}
use Rattle.bit_blast.specs.Differences.{variables_from, words_from, input_word, start_bits, start_built}
use Rattle.bit_blast.specs.Exactness.{number_of, values_at, start_values, SameOver}
use Rattle.bit_blast.proofs.Ends.{length-variables_from}
use Rattle.bit_blast.proofs.Numbers.{low_places, number_lt}
use Rattle.bit_blast.proofs.Formed.{AllWords, AreOf, register_value}
use Rattle.thumb_model.proofs.Held.{bool_small}

pub below-variables_from : (v n w : ℕ) → v + n ≤ w → AllBelow w (variables_from v n)
below-variables_from v zero w h = tt
below-variables_from v (suc n) w h = (omega arith, below-variables_from (suc v) n w (omega arith))

length-input_word : (v : ℕ) → length (input_word v) ≡ 32
unfolding input_word
length-input_word v = length-variables_from v 32

below-input_word : (v w : ℕ) → v + 32 ≤ w → AllBelow w (input_word v)
unfolding input_word
below-input_word v w h = below-variables_from v 32 w h

words-start : (v k w : ℕ) → v + 32 * k ≤ w → AllWords w (words_from v k)
words-start v zero w h = tt
words-start v (suc k) w h = (length-input_word v, below-input_word v w (omega arith), words-start (v + 32) k w (omega arith))

pub start_are : (k : ℕ) → AreOf (32 * k + 4) (start_bits k)
start_are k = record { words = words-start 0 k (32 * k + 4) (omega arith); n_of = omega arith; z_of = omega arith; c_of = omega arith; v_of = omega arith }

pub start_ready : (k : ℕ) → Ready (32 * k + 4) (start_built k)
start_ready k = Ready-inputs (32 * k + 4)

-- ---- truth values that agree below a limit

bit_same : (m n : ℕ → Bool) (low : ℕ) (x : Bit) → ((v : ℕ) → v < low → m v ≡ n v) → BitBelow low x → bit_value m x ≡ bit_value n x
bit_same m n low (Constant c) h k = refl
bit_same m n low (Signed l) h k = rw (h (variable_of l) k)

pub number_same : (m n : ℕ → Bool) (low : ℕ) (xs : List Bit) → ((v : ℕ) → v < low → m v ≡ n v) → AllBelow low xs → number_of m xs ≡ number_of n xs
number_same m n low [] h k = refl
number_same m n low (x ∷ xs) h k = rw (bit_same m n low x h k.0, number_same m n low xs h k.1)

word_same : (m n : ℕ → Bool) (low : ℕ) (ws : List (List Bit)) (x : ℕ) → ((v : ℕ) → v < low → m v ≡ n v) → AllWords low ws → number_of m (word ws x) ≡ number_of n (word ws x)
word_same m n low [] x h k = refl
word_same m n low (w ∷ ws) zero h k = number_same m n low w h k.1
word_same m n low (w ∷ ws) (suc x) h k = word_same m n low ws x h k.2

pub values_same : (m n : ℕ → Bool) (low : ℕ) (s : Bits) (x : ℕ) → ((v : ℕ) → v < low → m v ≡ n v) → AreOf low s → values_at m s x ≡ values_at n s x
values_same m n low s x h a =
    rw (bit_same m n low s.n h a.n_of, bit_same m n low s.z h a.z_of, bit_same m n low s.c h a.c_of, bit_same m n low s.v h a.v_of, word_same m n low s.r x h a.words) refl

-- ---- the truth values of a state

abbrev pub given_by : ℕ → Values → ℕ → Bool
given_by k v t =
    cond (ltb t (32 * k)) (eqb (bit_at (v (t / 32)) (t % 32)) 1)
    (cond (eqb t (32 * k)) (eqb (v n_flag) 1) (cond (eqb t (32 * k + 1)) (eqb (v z_flag) 1) (cond (eqb t (32 * k + 2)) (eqb (v c_flag) 1) (eqb (v v_flag) 1))))

bit_test : (b : Bool) (x : ℕ) → x < 2 → b ≡ eqb x 1 → from_bool b ≡ x
bit_test b x h e =
    ap from_bool e
    ∙ ⊎_elim (λ (t : x ≡ 1). ap (λ y. from_bool (eqb y 1)) t ∙ sym t) (λ (f : x ≡ 1 → ⊥). let z : x ≡ 0 = omega arith in ap (λ y. from_bool (eqb y 1)) z ∙ sym z) (cases_eq x 1)

-- the bit of a variable is its value
pub variable_value : (m : ℕ → Bool) (v : ℕ) → from_bool (bit_value m (Signed (2 * v))) ≡ from_bool (m v)
variable_value m v = ap from_bool (literal_value-positive m v)

pub number_of-bits : (m : ℕ → Bool) (v n x j : ℕ) → ((i : ℕ) → i < n → m (v + i) ≡ eqb (bit_at x (j + i)) 1) → number_of m (variables_from v n) ≡ x / 2 ^ j % 2 ^ n
number_of-bits m v zero x j h = omega arith
number_of-bits m v (suc n) x j h =
    let a : ℕ = x / 2 ^ j in
    let first : m v ≡ eqb (bit_at x j) 1 = ap m (let e : v ≡ v + 0 = omega arith in e) ∙ h 0 (omega arith) ∙ ap (λ i. eqb (bit_at x i) 1) (let e : j + 0 ≡ j = omega arith in e) in
    let low : from_bool (m v) ≡ a % 2 = bit_test (m v) (bit_at x j) (bit_at-lt x j) first in
    let rest : number_of m (variables_from (suc v) n) ≡ x / 2 ^ (j + 1) % 2 ^ n = number_of-bits m (suc v) n x (j + 1) (λ i p. ap m (let e : suc v + i ≡ v + suc i = omega arith in e) ∙ h (suc i) (omega arith) ∙ ap (λ q. eqb (bit_at x q) 1) (let e : j + suc i ≡ j + 1 + i = omega arith in e)) in
    let half : x / 2 ^ (j + 1) ≡ a / 2 = sym (shr-shr x j 1) in
    let both : (a % 2 + 2 * (a / 2)) % (2 ^ n * 2) ≡ a % 2 + 2 * (a / 2 % 2 ^ n) = low_places (a % 2) (a / 2) (2 ^ n) (omega arith) (pow_pos n) in
    let whole : a % 2 + 2 * (a / 2) ≡ a = omega arith in
    let joined : a % (2 ^ n * 2) ≡ a % 2 + 2 * (a / 2 % 2 ^ n) = rw whole at both in
    ap (λ b. b + 2 * number_of m (variables_from (suc v) n)) (variable_value m v) ∙ rw (low, rest, half, pow-suc 2 n) (sym joined)

number_of-input : (m : ℕ → Bool) (v x : ℕ) → x < 2 ^ 32 → ((i : ℕ) → i < 32 → m (v + i) ≡ eqb (bit_at x i) 1) → number_of m (input_word v) ≡ x
unfolding input_word
number_of-input m v x h e =
    number_of-bits m v 32 x 0 (λ i p. e i p ∙ ap (λ q. eqb (bit_at x q) 1) (let g : i ≡ 0 + i = omega arith in g))
    ∙ (let g : x / 2 ^ 0 % 2 ^ 32 ≡ x = omega arith in g)

pub word-words_from : (v k x : ℕ) → x < k → word (words_from v k) x ≡ input_word (v + 32 * x)
word-words_from v zero x h = absurd (omega arith)
word-words_from v (suc k) zero h = ap input_word (let e : v ≡ v + 32 * 0 = omega arith in e)
word-words_from v (suc k) (suc x) h = word-words_from (v + 32) k x (omega arith) ∙ ap input_word (let e : v + 32 + 32 * x ≡ v + 32 * suc x = omega arith in e)

given_bit : (k : ℕ) (v : Values) (r i : ℕ) → r < k → i < 32 → given_by k v (0 + 32 * r + i) ≡ eqb (bit_at (v r) i) 1
given_bit k v r i p q =
    let inside : 0 + 32 * r + i < 32 * k = omega arith in
    let high : (0 + 32 * r + i) / 32 ≡ r = omega arith in
    let low : (0 + 32 * r + i) % 32 ≡ i = omega arith in
    cond-true (ltb (0 + 32 * r + i) (32 * k)) _ _ (lt-ltb (0 + 32 * r + i) (32 * k) inside) ∙ ap (λ a. eqb (bit_at (v a) ((0 + 32 * r + i) % 32)) 1) high ∙ ap (λ a. eqb (bit_at (v r) a) 1) low

beyond : (k j : ℕ) (a b : Bool) → cond (ltb (32 * k + j) (32 * k)) a b ≡ b
beyond k j a b = cond-false (ltb (32 * k + j) (32 * k)) a b (le-ltb (32 * k + j) (32 * k) (omega arith))

other : (k i j : ℕ) (a b : Bool) → (i ≡ j → ⊥) → cond (eqb (32 * k + i) (32 * k + j)) a b ≡ b
other k i j a b h = cond-false (eqb (32 * k + i) (32 * k + j)) a b (ne_eqb (32 * k + i) (32 * k + j) (λ e. h (omega arith)))

this : (k i : ℕ) (a b : Bool) → cond (eqb (32 * k + i) (32 * k + i)) a b ≡ a
this k i a b = cond-true (eqb (32 * k + i) (32 * k + i)) a b (eq-eqb (32 * k + i) (32 * k + i) refl)

given_n : (k : ℕ) (v : Values) → given_by k v (32 * k) ≡ eqb (v n_flag) 1
given_n k v = cond-false (ltb (32 * k) (32 * k)) _ _ (le-ltb (32 * k) (32 * k) (omega arith)) ∙ cond-true (eqb (32 * k) (32 * k)) _ _ (eq-eqb (32 * k) (32 * k) refl)

given_z : (k : ℕ) (v : Values) → given_by k v (32 * k + 1) ≡ eqb (v z_flag) 1
given_z k v = beyond k 1 _ _ ∙ cond-false (eqb (32 * k + 1) (32 * k)) _ _ (ne_eqb (32 * k + 1) (32 * k) (λ e. omega arith)) ∙ this k 1 _ _

given_c : (k : ℕ) (v : Values) → given_by k v (32 * k + 2) ≡ eqb (v c_flag) 1
given_c k v = beyond k 2 _ _ ∙ cond-false (eqb (32 * k + 2) (32 * k)) _ _ (ne_eqb (32 * k + 2) (32 * k) (λ e. omega arith)) ∙ other k 2 1 _ _ (λ e. omega arith) ∙ this k 2 _ _

given_v : (k : ℕ) (v : Values) → given_by k v (32 * k + 3) ≡ eqb (v v_flag) 1
given_v k v =
    beyond k 3 _ _ ∙ cond-false (eqb (32 * k + 3) (32 * k)) _ _ (ne_eqb (32 * k + 3) (32 * k) (λ e. omega arith)) ∙ other k 3 1 _ _ (λ e. omega arith)
    ∙ other k 3 2 _ _ (λ e. omega arith)

given_flag : (k : ℕ) (v : Values) (j : ℕ) → AreWords v → j < 4 → start_values (given_by k v) k (15 + j) ≡ v (15 + j)
given_flag k v zero are h = variable_value (given_by k v) (32 * k) ∙ bit_test (given_by k v (32 * k)) (v 15) (are.flag 15 (omega arith)) (given_n k v)
given_flag k v (suc zero) are h = variable_value (given_by k v) (32 * k + 1) ∙ bit_test (given_by k v (32 * k + 1)) (v 16) (are.flag 16 (omega arith)) (given_z k v)
given_flag k v (suc (suc zero)) are h = variable_value (given_by k v) (32 * k + 2) ∙ bit_test (given_by k v (32 * k + 2)) (v 17) (are.flag 17 (omega arith)) (given_c k v)
given_flag k v (suc (suc (suc zero))) are h = variable_value (given_by k v) (32 * k + 3) ∙ bit_test (given_by k v (32 * k + 3)) (v 18) (are.flag 18 (omega arith)) (given_v k v)
given_flag k v (suc (suc (suc (suc j)))) are h = absurd (omega arith)

pub given_back : (k : ℕ) (v : Values) → AreWords v → SameOver k (start_values (given_by k v) k) v
given_back k v are = λ x p.
    ⊎_elim
    (λ (h : (x < k) × (x < 15)).
    sym (register_value (given_by k v) (start_bits k) x h.1)
    ∙ ap (number_of (given_by k v)) (word-words_from 0 k x h.0)
    ∙ number_of-input (given_by k v) (0 + 32 * x) (v x) (are.register x h.1) (λ i q. given_bit k v x i h.0 q))
    (λ (h : (15 ≤ x) × (x < 19)).
    let least : 15 ≤ x = h.0 in
    let below : x < 19 = h.1 in
    let e : 15 + (x - 15) ≡ x = omega arith in
    ap (start_values (given_by k v) k) (sym e) ∙ given_flag k v (x - 15) are (omega arith) ∙ ap v e)
    p

-- ---- truth values give a state whose items are words

word_lt : (m : ℕ → Bool) (low : ℕ) (ws : List (List Bit)) (x : ℕ) → AllWords low ws → number_of m (word ws x) < 2 ^ 32
word_lt m low [] x h = omega arith
word_lt m low (w ∷ ws) zero h = number_lt m w h.0
word_lt m low (w ∷ ws) (suc x) h = word_lt m low ws x h.2

cond_lt : (t : Bool) (a b c : ℕ) → a < c → b < c → cond t a b < c
cond_lt true a b c h k = h
cond_lt false a b c h k = k

pub start_words : (m : ℕ → Bool) (k : ℕ) → AreWords (start_values m k)
start_words m k = record {
  register = λ x h. subst (λ n. n < 2 ^ 32) (register_value m (start_bits k) x h) (word_lt m (32 * k + 4) (words_from 0 k) x (start_are k).words);
  flag = λ x h.
      let bit = λ (b : Bit). bool_small (bit_value m b) in
      cond_lt (eqb x n_flag) _ _ 2 (bit (start_bits k).n) (cond_lt (eqb x z_flag) _ _ 2 (bit (start_bits k).z) (cond_lt (eqb x c_flag) _ _ 2 (bit (start_bits k).c) (cond_lt (eqb x v_flag) _ _ 2 (bit (start_bits k).v)
      (subst (λ n. n < 2) (sym (cond-false (ltb x 15) (number_of m (word (start_bits k).r x)) 0 (le-ltb x 15 h))) (omega arith)))));
}
