-- For the code's loops over the 32 bits of a word: the invariant is preserved, and at the end gives the contract.
use Rattle.std.proofs.Common.{◌≡◌, ℕ, zero, suc, ◌+◌, ◌-◌, ◌*◌, ◌^◌, ◌/◌, ◌%◌, ◌<◌, ◌≤◌, false, List, [], ◌∷◌, ◌++◌, length, take, drop, get_or, set, eqb, refl, sym, ap, ◌∙◌, arith, append_assoc}
use Rattle.std.proofs.lemmas.List.{take_all, take_more, take_more_set, drop_more, get_or-take, length-take, length-drop, take-replicate, get_or_append_left, get_or-append_right, length-append}
use Rattle.word_bits.specs.declared.Shift.{Shift}
use Rattle.word_bits.specs.declared.Shift.TheVariants.{Lsl, Lsr, Asr}
use Rattle.word_bits.proofs.Words.{pow_le}
use Rattle.cnf_gates.specs.declared.bit.Bit.{Bit}
use Rattle.cnf_gates.specs.declared.bit.Bit.TheVariants.{Constant}
use Rattle.cnf_gates.specs.Gates.{Built}
use Rattle.cnf_gates.specs.declared.bit.Bit.TheVariants.{Signed}
use Rattle.bit_blast.specs.Circuits.{Shifted, stage_of, stages_from}
use Rattle.bit_blast.specs.Differences.{variables_from, words_from, input_word}
use Rattle.bit_blast.specs.Words.{copies, number_bits, filled, fill, moved, moved_out, bit_of}

pub small_power : (j : ℕ) → j < 6 → 1 * 2 ^ j % 18446744073709551616 ≤ 32
small_power j h = let p : 2 ^ j ≤ 2 ^ 5 = pow_le j 5 (omega arith) in omega arith

-- ---- numbers

pub constant_step : (i rest : ℕ) (bits r : List Bit) → i < 32 → length bits ≡ 32 → take i bits ++ number_bits (32 - i) rest ≡ r
    → take (i + 1) (set bits i (Constant (eqb (rest % 2) 1))) ++ number_bits (32 - (i + 1)) (rest / 2) ≡ r
constant_step i rest bits r h wide e =
    let more : suc (32 - (i + 1)) ≡ 32 - i = omega arith in
    ap (λ t. t ++ number_bits (32 - (i + 1)) (rest / 2)) (take_more_set bits i (Constant (eqb (rest % 2) 1)) (omega arith))
    ∙ append_assoc (take i bits) (Constant (eqb (rest % 2) 1) ∷ []) (number_bits (32 - (i + 1)) (rest / 2))
    ∙ ap (λ n. take i bits ++ number_bits n rest) more
    ∙ e

-- ---- words put together

-- a prefix that grows by one bit
pub one_more : (i : ℕ) (word whole : List Bit) (x : Bit) → i < 32 → length word ≡ 32 → length whole ≡ 32 → x ≡ get_or whole i x → take i word ≡ take i whole → take (i + 1) (set word i x) ≡ take (i + 1) whole
one_more i word whole x h wide long e same =
    take_more_set word i x (omega arith) ∙ ap (λ t. t ++ x ∷ []) same ∙ ap (λ y. take i whole ++ y ∷ []) e ∙ sym (take_more whole i x (omega arith))

pub take-filled : (n : ℕ) (x : Bit) → n ≤ 32 → take n (filled x) ≡ copies n x
unfolding filled
take-filled n x h = take-replicate n 32 x h

pub moved_lsl : (kind : Shift) (n : ℕ) (x rest result : List Bit) → kind ≡ Lsl → n ≤ 32 → rest ≡ filled (fill kind x) → result ≡ take n rest ++ take (32 - n) x → result ≡ moved kind n x
moved_lsl kind n x rest result e le f g =
    g ∙ ap (λ r. take n r ++ take (32 - n) x) (f ∙ ap (λ k. filled (fill k x)) e) ∙ ap (λ r. r ++ take (32 - n) x) (take-filled n (Constant false) le) ∙ sym (ap (λ k. moved k n x) e)

-- taking all the bits that are left from place n on
rest_taken : (n : ℕ) (x : List Bit) → n ≤ 32 → length x ≡ 32 → take (length x - n) (drop n x) ≡ drop n x
rest_taken n x le wide = take_all (length x - n) (drop n x) (omega (arith, length-drop n x))

pub moved_lsr : (kind : Shift) (n : ℕ) (x rest result : List Bit) → kind ≡ Lsr → n ≤ 32 → length x ≡ 32 → rest ≡ filled (fill kind x) → result ≡ take (length x - n) (drop n x) ++ take n rest → result ≡ moved kind n x
moved_lsr kind n x rest result e le wide f g =
    g ∙ ap (λ d. d ++ take n rest) (rest_taken n x le wide) ∙ ap (λ r. drop n x ++ take n r) (f ∙ ap (λ k. filled (fill k x)) e) ∙ ap (λ r. drop n x ++ r) (take-filled n (Constant false) le) ∙ sym (ap (λ k. moved k n x) e)

pub moved_asr : (kind : Shift) (n : ℕ) (x rest result : List Bit) → kind ≡ Asr → n ≤ 32 → length x ≡ 32 → rest ≡ filled (fill kind x) → result ≡ take (length x - n) (drop n x) ++ take n rest → result ≡ moved kind n x
moved_asr kind n x rest result e le wide f g =
    g ∙ ap (λ d. d ++ take n rest) (rest_taken n x le wide) ∙ ap (λ r. drop n x ++ take n r) (f ∙ ap (λ k. filled (fill k x)) e) ∙ ap (λ r. drop n x ++ r) (take-filled n (bit_of x 31) le) ∙ sym (ap (λ k. moved k n x) e)

joined_left : (low high : List Bit) (i : ℕ) (x : Bit) → i < length low → x ≡ get_or low i x → x ≡ get_or (low ++ high) i x
joined_left low high i x h e = e ∙ sym (get_or_append_left low high x i h)

joined_right : (low high : List Bit) (i : ℕ) (x : Bit) → length low ≤ i → x ≡ get_or high (i - length low) x → x ≡ get_or (low ++ high) i x
joined_right low high i x h e = e ∙ sym (get_or-append_right low high (length low) i x refl h)

pub joined_low : (i : ℕ) (word low high : List Bit) (x : Bit) → i < 32 → length word ≡ 32 → length low + length high ≡ 32 → i < length low → x ≡ get_or low i x → take i word ≡ take i (low ++ high)
    → take (i + 1) (set word i x) ≡ take (i + 1) (low ++ high)
joined_low i word low high x h wide long inside e same = one_more i word (low ++ high) x h wide (length-append low high ∙ long) (joined_left low high i x inside e) same

pub joined_high : (i : ℕ) (word low high : List Bit) (x : Bit) → i < 32 → length word ≡ 32 → length low + length high ≡ 32 → length low ≤ i → x ≡ get_or high (i - length low) x → take i word ≡ take i (low ++ high)
    → take (i + 1) (set word i x) ≡ take (i + 1) (low ++ high)
joined_high i word low high x h wide long beyond e same = one_more i word (low ++ high) x h wide (length-append low high ∙ long) (joined_right low high i x beyond e) same

-- four bytes
module _ (a b c d : List Bit) (wa : length a ≡ 8) (wb : length b ≡ 8) (wc : length c ≡ 8) (wd : length d ≡ 8) where
  length-two : length (a ++ b) ≡ 16
  length-two = omega (arith, length-append a b)

  length-three : length ((a ++ b) ++ c) ≡ 24
  length-three = omega (arith, length-append (a ++ b) c, length-two)

  pub length-four : length (((a ++ b) ++ c) ++ d) ≡ 32
  length-four = omega (arith, length-append ((a ++ b) ++ c) d, length-three)

  pub byte_0 : (i : ℕ) (x : Bit) → i < 32 → i / 8 ≡ 0 → x ≡ get_or a (i % 8) x → x ≡ get_or (((a ++ b) ++ c) ++ d) i x
  byte_0 i x h e g =
      let two = length-two in let three = length-three in
      let p : x ≡ get_or a i x = g ∙ ap (λ k. get_or a k x) (let q : i % 8 ≡ i = omega arith in q) in
      joined_left ((a ++ b) ++ c) d i x (omega arith) (joined_left (a ++ b) c i x (omega arith) (joined_left a b i x (omega arith) p))

  pub byte_1 : (i : ℕ) (x : Bit) → i < 32 → i / 8 ≡ 1 → x ≡ get_or b (i % 8) x → x ≡ get_or (((a ++ b) ++ c) ++ d) i x
  byte_1 i x h e g =
      let two = length-two in let three = length-three in
      let p : x ≡ get_or b (i - length a) x = g ∙ ap (λ k. get_or b k x) (let q : i % 8 ≡ i - length a = omega arith in q) in
      joined_left ((a ++ b) ++ c) d i x (omega arith) (joined_left (a ++ b) c i x (omega arith) (joined_right a b i x (omega arith) p))

  pub byte_2 : (i : ℕ) (x : Bit) → i < 32 → i / 8 ≡ 2 → x ≡ get_or c (i % 8) x → x ≡ get_or (((a ++ b) ++ c) ++ d) i x
  byte_2 i x h e g =
      let two = length-two in let three = length-three in
      let p : x ≡ get_or c (i - length (a ++ b)) x = g ∙ ap (λ k. get_or c k x) (let q : i % 8 ≡ i - length (a ++ b) = omega arith in q) in
      joined_left ((a ++ b) ++ c) d i x (omega arith) (joined_right (a ++ b) c i x (omega arith) p)

  pub byte_3 : (i : ℕ) (x : Bit) → i < 32 → (i / 8 ≡ 0 → ⊥) → (i / 8 ≡ 1 → ⊥) → (i / 8 ≡ 2 → ⊥) → x ≡ get_or d (i % 8) x → x ≡ get_or (((a ++ b) ++ c) ++ d) i x
  byte_3 i x h e f k g =
      let three = length-three in
      let p : x ≡ get_or d (i - length ((a ++ b) ++ c)) x = g ∙ ap (λ k. get_or d k x) (let q : i % 8 ≡ i - length ((a ++ b) ++ c) = omega arith in q) in
      joined_right ((a ++ b) ++ c) d i x (omega arith) p

-- ---- stages

first_of_rest : (j n : ℕ) (amount : List Bit) (a : Bit) → j < n → n ≤ length amount → a ≡ get_or amount j a → drop j (take n amount) ≡ a ∷ drop (j + 1) (take n amount)
first_of_rest j n amount a h le e =
    drop_more (take n amount) j a (omega (arith, length-take n amount)) ∙ ap (λ x. x ∷ drop (j + 1) (take n amount)) (get_or-take n amount j a h ∙ sym e)

pub stages_step : (kind : Shift) (b c : Built) (j : ℕ) (amount : List Bit) (s t : Shifted) (a : Bit) (r : Built × Shifted) → j < 6 → length amount ≡ 32 → a ≡ get_or amount j a
    → (c, t) ≡ stage_of b a (moved kind (2 ^ j) s.value) (moved_out kind (2 ^ j) s.value) s → stages_from kind b j (drop j (take 6 amount)) s ≡ r → stages_from kind c (j + 1) (drop (j + 1) (take 6 amount)) t ≡ r
stages_step kind b c j amount s t a r h wide e f g =
    ap (λ p. stages_from kind p.0 (j + 1) (drop (j + 1) (take 6 amount)) p.1) f
    ∙ sym (ap (λ l. stages_from kind b j l s) (first_of_rest j 6 amount a h (omega arith) e)) ∙ g

-- ---- inputs

pub length-variables_from : (v n : ℕ) → length (variables_from v n) ≡ n
length-variables_from v zero = refl
length-variables_from v (suc n) = ap suc (length-variables_from (suc v) n)

pub variables_from-more : (v n : ℕ) → variables_from v n ++ Signed (2 * (v + n)) ∷ [] ≡ variables_from v (n + 1)
variables_from-more v zero = ap (λ w. Signed (2 * w) ∷ []) (let e : v + 0 ≡ v = omega arith in e)
variables_from-more v (suc n) =
    ap (λ w. Signed (2 * v) ∷ (variables_from (suc v) n ++ Signed (2 * w) ∷ [])) (let e : v + suc n ≡ suc v + n = omega arith in e)
    ∙ ap (λ l. Signed (2 * v) ∷ l) (variables_from-more (suc v) n) ∙ ap (variables_from v) (let e : suc (n + 1) ≡ suc n + 1 = omega arith in e)

pub words_from-more : (v k : ℕ) → words_from v k ++ input_word (v + 32 * k) ∷ [] ≡ words_from v (k + 1)
words_from-more v zero = ap (λ w. input_word w ∷ []) (let e : v + 32 * 0 ≡ v = omega arith in e)
words_from-more v (suc k) =
    ap (λ w. input_word v ∷ (words_from (v + 32) k ++ input_word w ∷ [])) (let e : v + 32 * suc k ≡ v + 32 + 32 * k = omega arith in e)
    ∙ ap (λ l. input_word v ∷ l) (words_from-more (v + 32) k) ∙ ap (words_from v) (let e : suc (k + 1) ≡ suc k + 1 = omega arith in e)

pub length-words_from : (v k : ℕ) → length (words_from v k) ≡ k
length-words_from v zero = refl
length-words_from v (suc k) = ap suc (length-words_from (v + 32) k)
