-- Words over a list of instructions, by place.
use Rattle.std.proofs.Common.{◌≡◌, ℕ, zero, suc, ◌+◌, ◌-◌, ◌*◌, ◌/◌, ◌%◌, ◌^◌, ◌<◌, ◌≤◌, List, [], ◌∷◌, ◌++◌, inl, inr, map, take, drop, get_or, length, refl, sym, ◌∙◌, ap, arith, Option, Some, None, slice_get, length-append, add-one}
use Rattle.std.specs.Option.{option_map}
use Rattle.std.specs.List.{flat_map}
use Rattle.std.proofs.Math.Nat.{div-lt_iff_lt-mul, mul_comm, pow-suc, pow-zero, pow-le-pow_left, pow-le-pow_right}
use Rattle.std.proofs.lemmas.Nat.{mul-add-lt}
use Rattle.std.proofs.lemmas.List.{length-map}
use Rattle.std.proofs.lemmas.List.Concat.{flat_map-append}
use Rattle.std.proofs.Math.Seq.{take-suc}
use Rattle.std.proofs.lemmas.Option.{slice_get-map, same_Some, slice_get_within, get_or_from_slice_get}
use Rattle.std.proofs.lemmas.Bool.Decides.{leb_tells}
use Rattle.thumb_instr.specs.declared.instr.Instr.{Instr}
use Rattle.seq_enum.specs.Alphabet.{IsPlace, numbers_from, words, sequences, sequences_of, alphabet}
use Rattle.seq_enum.specs.Places.{sum_below}
use Rattle.seq_enum.proofs.Numbered.{length-flat_map-even, get-flat_map-digits, IsPlace-flat_map, IsPlace-map, IsPlace-lists, flat_map_at, get_back, numbers_at, piece_here, piece_later}
use Rattle.common_lemmas.proofs.Lists.{get_front}
use Rattle.seq_enum.proofs.CostLines.{length-from}

pub length-words : (instrs : List Instr) (n : ℕ) → length (words instrs n) ≡ length instrs ^ n
unfolding words
length-words instrs zero = sym (pow-zero (length instrs))
length-words instrs (suc n) =
    length-flat_map-even (λ w. map (λ x. w ++ x ∷ []) instrs) (length instrs) (words instrs n) (λ j w e. length-map instrs (λ x. w ++ x ∷ []))
    ∙ rw (length-words instrs n) (omega (arith, pow-suc (length instrs) n))

pub power_fits : (size n : ℕ) → size ≤ 1952 → n ≤ 5 → size ^ n < 2 ^ 61
power_fits size n h k =
    let one : size ^ n ≤ 1952 ^ n = pow-le-pow_left h n in
    let pos : 0 < 1952 = omega arith in
    let two : 1952 ^ n ≤ 1952 ^ 5 = pow-le-pow_right pos k in
    omega arith

-- the last instruction is the least significant digit
pub word_more : (instrs : List Instr) (m left : ℕ) (w : List Instr) (x : Instr) → 0 < length instrs
    → slice_get (words instrs m) (left / length instrs) ≡ Some w → slice_get instrs (left % length instrs) ≡ Some x
    → slice_get (words instrs (suc m)) left ≡ Some (w ++ x ∷ [])
unfolding words
word_more instrs m left w x pos front last =
    get-flat_map-digits (λ v. map (λ y. v ++ y ∷ []) instrs) (length instrs) pos (words instrs m) (λ j v e. length-map instrs (λ y. v ++ y ∷ [])) left
    ∙ rw front (slice_get-map (λ y. w ++ y ∷ []) instrs (left % length instrs) ∙ ap (option_map (λ y. w ++ y ∷ [])) last)

-- two words with one more instruction each are equal only where both parts are
snoc_front : (v w : List Instr) (x y : Instr) → v ++ x ∷ [] ≡ w ++ y ∷ [] → (v ≡ w) × (x ≡ y)
snoc_front [] [] x y e = (refl, cc)
snoc_front [] (z ∷ []) x y e = absurd cc
snoc_front [] (z ∷ u ∷ w) x y e = absurd cc
snoc_front (z ∷ []) [] x y e = absurd cc
snoc_front (z ∷ u ∷ v) [] x y e = absurd cc
snoc_front (z ∷ v) (u ∷ w) x y e =
    let rest : v ++ x ∷ [] ≡ w ++ y ∷ [] = cc in
    let head : z ≡ u = cc in
    let tail = snoc_front v w x y rest in
    (cc (head, tail.0), tail.1)

pub IsPlace-word : (instrs : List Instr) (n : ℕ) (w : List Instr) (x : Instr) (v a : ℕ)
    → IsPlace (Some v) (words instrs n) w → IsPlace (Some a) instrs x
    → IsPlace (Some (v * length instrs + a)) (words instrs (suc n)) (w ++ x ∷ [])
unfolding words
IsPlace-word instrs n w x v a front last =
    IsPlace-flat_map (λ u. map (λ y. u ++ y ∷ []) instrs) (length instrs) (words instrs n) (λ j u e. length-map instrs (λ y. u ++ y ∷ []))
    w (w ++ x ∷ []) only (Some v) (Some a) front (IsPlace-map (λ y. w ++ y ∷ []) instrs x (λ z e. (snoc_front w w z x e).1) (Some a) last)
  where
    from : (z : List Instr) (o : Option Instr) → option_map (λ y. z ++ y ∷ []) o ≡ Some (w ++ x ∷ []) → z ≡ w
    from z None h = absurd cc
    from z (Some y) h = (snoc_front z w y x (same_Some _ _ h)).0

    only : (j : ℕ) (z : List Instr) → slice_get (map (λ y. z ++ y ∷ []) instrs) j ≡ Some (w ++ x ∷ []) → z ≡ w
    only j z e = from z (slice_get instrs j) (sym (slice_get-map (λ y. z ++ y ∷ []) instrs j) ∙ e)

-- a word's instructions are among those that are listed, and it has its length
pub words_parts : {P : Type 0} (instrs : List Instr) (n i : ℕ) (w : List Instr) → slice_get (words instrs (suc n)) i ≡ Some w
    → ((h j : ℕ) (v : List Instr) (x : Instr) → slice_get (words instrs n) h ≡ Some v → slice_get instrs j ≡ Some x → w ≡ v ++ x ∷ [] → P) → P
unfolding words
words_parts {P} instrs n i w e next =
    flat_map_at (λ v. map (λ x. v ++ x ∷ []) instrs) (words instrs n) i w e
    (λ h v j front there. last h v j front (slice_get instrs j) refl (sym (slice_get-map (λ x. v ++ x ∷ []) instrs j) ∙ there))
  where
    last : (h : ℕ) (v : List Instr) (j : ℕ) → slice_get (words instrs n) h ≡ Some v → (o : Option Instr) → slice_get instrs j ≡ o
        → option_map (λ x. v ++ x ∷ []) o ≡ Some w → P
    last h v j front None at is = absurd cc
    last h v j front (Some x) at is = next h j v x front at (sym (same_Some _ _ is))

pub word_length : (instrs : List Instr) (n i : ℕ) (w : List Instr) → slice_get (words instrs n) i ≡ Some w → length w ≡ n
unfolding words
word_length instrs zero zero w e = ap length (sym (same_Some [] w e))
word_length instrs zero (suc i) w e = absurd cc
word_length instrs (suc n) i w e =
    words_parts instrs n i w e (λ h j v x front at is. ap length is ∙ omega (arith, length-append v (x ∷ []), word_length instrs n h v front))

pub IsPlace-empty : (instrs : List Instr) → IsPlace (Some 0) (words instrs 0) []
unfolding words
IsPlace-empty instrs = record {
  stands = λ i e. rw (← same_Some 0 i e) refl;
  found = λ i e. at i e;
}
  where
    at : (i : ℕ) → slice_get (words instrs 0) i ≡ Some [] → Some 0 ≡ Some i
    at zero e = refl
    at (suc i) e = absurd cc

pub power_small : (size n : ℕ) → size ≤ 1952 → n ≤ 5 → size ^ n ≤ 1952 ^ 5
power_small size n h k =
    let pos : 0 < 1952 = omega arith in
    let one : size ^ n ≤ 1952 ^ n = pow-le-pow_left h n in
    let two : 1952 ^ n ≤ 1952 ^ 5 = pow-le-pow_right pos k in
    omega arith

pub sum_below-more : (f : ℕ → ℕ) (n : ℕ) → sum_below f (n + 1) ≡ sum_below f n + f n
unfolding sum_below
sum_below-more f n = rw add-one refl

pub sum_below-none : (f : ℕ → ℕ) → sum_below f 0 ≡ 0
unfolding sum_below
sum_below-none f = refl

pub ruleset sums = (power_small, power_fits, sum_below-more, sum_below-none)

number_here : (n : ℕ) → n < 6 → get_or (numbers_from 0 6) n 0 ≡ n
number_here n h = get_or_from_slice_get (numbers_from 0 6) n n 0 (numbers_at 0 6 n h ∙ ap Some (omega arith))

pub word_here : (instrs : List Instr) (n left : ℕ) → n < 6 → left < length instrs ^ n
    → slice_get (flat_map (words instrs) (drop n (numbers_from 0 6))) left ≡ slice_get (words instrs n) left
word_here instrs n left h low =
    let at : get_or (numbers_from 0 6) n 0 ≡ n = number_here n h in
    let within : n < length (numbers_from 0 6) = omega (arith, length-from 0 6) in
    let fits : left < length (words instrs (get_or (numbers_from 0 6) n 0)) = rw at (rw length-words low) in
    piece_here (words instrs) (numbers_from 0 6) n left 0 within fits ∙ ap (λ m. slice_get (words instrs m) left) at

pub word_later : (instrs : List Instr) (n left : ℕ) → n < 6 → length instrs ^ n ≤ left
    → slice_get (flat_map (words instrs) (drop n (numbers_from 0 6))) left
    ≡ slice_get (flat_map (words instrs) (drop (n + 1) (numbers_from 0 6))) (left - length instrs ^ n)
word_later instrs n left h past =
    let at : get_or (numbers_from 0 6) n 0 ≡ n = number_here n h in
    let within : n < length (numbers_from 0 6) = omega (arith, length-from 0 6) in
    let size : length (words instrs (get_or (numbers_from 0 6) n 0)) ≡ length instrs ^ n = rw at (length-words instrs n) in
    piece_later (words instrs) (numbers_from 0 6) n left 0 within (omega arith)
    ∙ ap (λ m. slice_get (flat_map (words instrs) (drop (n + 1) (numbers_from 0 6))) (left - m)) size

pub seq_here : (k : ℕ) (pool : List ℕ) (n left : ℕ) → n < 6 → left < length (alphabet k pool) ^ n
    → slice_get (flat_map (words (alphabet k pool)) (drop n (numbers_from 0 6))) left ≡ slice_get (words (alphabet k pool) n) left
seq_here k pool n left h low = word_here (alphabet k pool) n left h low

pub seq_later : (k : ℕ) (pool : List ℕ) (n left : ℕ) → n < 6 → length (alphabet k pool) ^ n ≤ left
    → slice_get (flat_map (words (alphabet k pool)) (drop n (numbers_from 0 6))) left
    ≡ slice_get (flat_map (words (alphabet k pool)) (drop (n + 1) (numbers_from 0 6))) (left - length (alphabet k pool) ^ n)
seq_later k pool n left h past = word_later (alphabet k pool) n left h past

pub word_start : (instrs : List Instr) (q : ℕ) → slice_get (flat_map (words instrs) (drop 0 (numbers_from 0 6))) q ≡ slice_get (sequences_of instrs) q
unfolding sequences_of
word_start instrs q = refl

pub word_end : (instrs : List Instr) (q : ℕ) → slice_get (flat_map (words instrs) (drop 6 (numbers_from 0 6))) q ≡ None
unfolding numbers_from
word_end instrs q = refl

pub ruleset walked = (word_here, word_later, word_start)

pub seq_start : (k : ℕ) (pool : List ℕ) (q : ℕ) → slice_get (flat_map (words (alphabet k pool)) (drop 0 (numbers_from 0 6))) q ≡ slice_get (sequences k pool) q
unfolding sequences_of
seq_start k pool q = refl

pub seq_end : (k : ℕ) (pool : List ℕ) (q : ℕ) → slice_get (flat_map (words (alphabet k pool)) (drop 6 (numbers_from 0 6))) q ≡ None
unfolding numbers_from
seq_end k pool q = refl

pub ruleset seqs = (seq_here, seq_later, seq_start, seq_end, power_fits)

-- an instruction that isn't listed is in no word
pub no_word : (instrs : List Instr) (n : ℕ) (w : List Instr) (h : ℕ) (x : Instr) → slice_get w h ≡ Some x → IsPlace None instrs x
    → (i : ℕ) → slice_get (words instrs n) i ≡ Some w → ⊥
unfolding words
no_word instrs zero w h x at none zero e =
    let empty : slice_get [] h ≡ Some x = ap (λ v. slice_get v h) (same_Some [] w e) ∙ at in absurd cc
no_word instrs zero w h x at none (suc i) e = absurd cc
no_word instrs (suc n) w h x at none i e =
    words_parts instrs n i w e (λ f j v y front there is.
    let here : slice_get (v ++ y ∷ []) h ≡ Some x = sym (ap (λ u. slice_get u h) is) ∙ at in
    elim (leb_tells (length v) h) [
      | inl past ↦ last y (h - length v) j there (sym (get_back v (y ∷ []) h past.1) ∙ here)
      | inr low ↦ no_word instrs n v h x (sym (get_front v (y ∷ []) h low.1) ∙ here) none f front
    ])
  where
    last : (y : Instr) (m j : ℕ) → slice_get instrs j ≡ Some y → slice_get (y ∷ []) m ≡ Some x → ⊥
    last y zero j there is =
        let found : None ≡ Some j = none.found j (there ∙ is) in
        absurd cc
    last y (suc m) j there is = absurd cc

pub IsPlace-no_word : (instrs : List Instr) (n : ℕ) (w : List Instr) (h : ℕ) (x : Instr) → slice_get w h ≡ Some x → IsPlace None instrs x
    → IsPlace None (words instrs n) w
IsPlace-no_word instrs n w h x at none = record { stands = λ i e. absurd cc; found = λ i e. absurd (no_word instrs n w h x at none i e) }

pub horner_fits : (size n place digit : ℕ) → size ≤ 1952 → n ≤ 4 → place < size ^ n → digit < size
    → (place * size < 2 ^ 62) × (place * size + digit < size ^ (n + 1)) × (size ^ (n + 1) < 2 ^ 61)
horner_fits size n place digit h k low small =
    let next : size ^ (n + 1) ≡ size ^ n * size = rw add-one (pow-suc size n) in
    let below : place * size + digit < size * size ^ n = mul-add-lt place size digit (size ^ n) low small in
    let turned : size * size ^ n ≡ size ^ n * size = mul_comm size (size ^ n) in
    let top : size ^ (n + 1) < 2 ^ 61 = power_fits size (n + 1) h (omega arith) in
    let fits : place * size < 2 ^ 62 = omega arith in
    (fits, omega arith, top)

pub power_some : (size m left : ℕ) → left < size ^ m → 0 < m → 0 < size
power_some zero zero left h pos = absurd (omega arith)
power_some zero (suc m) left h pos = absurd (omega (arith, pow-suc 0 m))
power_some (suc size) m left h pos = omega arith

pub first_word : (instrs : List Instr) (left : ℕ) → left < 1 → slice_get (words instrs 0) left ≡ Some []
unfolding words
first_word instrs zero h = refl
first_word instrs (suc left) h = absurd (omega arith)

pub digit_left : (size m left : ℕ) → 0 < size → left < size ^ suc m → left / size < size ^ m
digit_left size m left pos h =
    (div-lt_iff_lt-mul pos).1 (omega (arith, pow-suc size m))

-- how many words are shorter
pub shorter_is : (instrs : List Instr) (n : ℕ) → n ≤ 6 → length (flat_map (words instrs) (take n (numbers_from 0 6))) ≡ sum_below (λ m. length instrs ^ m) n
unfolding sum_below
shorter_is instrs zero h = refl
shorter_is instrs (suc n) h =
    let within : n < length (numbers_from 0 6) = omega (arith, length-from 0 6) in
    let at : get_or (numbers_from 0 6) n 0 ≡ n = number_here n (omega arith) in
    ap (λ ns. length (flat_map (words instrs) ns)) (take-suc (numbers_from 0 6) n 0 within ∙ ap (λ m. take n (numbers_from 0 6) ++ m ∷ []) at)
    ∙ ap length (flat_map-append (words instrs) (take n (numbers_from 0 6)) (n ∷ []))
    ∙ omega (
      arith,
      length-append (flat_map (words instrs) (take n (numbers_from 0 6))) (flat_map (words instrs) (n ∷ [])),
      length-append (words instrs n) [],
      length-words instrs n,
      shorter_is instrs n (omega arith),
    )

pub IsPlace-sequences : (k : ℕ) (pool : List ℕ) (w : List Instr) → length w ≤ 5 → (q : Option ℕ) → IsPlace q (words (alphabet k pool) (length w)) w
    → IsPlace (option_map (λ b. sum_below (λ m. length (alphabet k pool) ^ m) (length w) + b) q) (sequences k pool) w
unfolding sequences_of
IsPlace-sequences k pool w h q in_words =
    let instrs = alphabet k pool in
    let n = length w in
    let at : IsPlace (Some n) (numbers_from 0 6) n = record {
      stands = λ i e. rw (← same_Some n i e) (numbers_at 0 6 n (omega arith) ∙ ap Some (omega arith));
      found = λ i e.
          let low : i < 6 = omega (arith, slice_get_within (numbers_from 0 6) i n e, length-from 0 6) in
          sym e ∙ numbers_at 0 6 i low ∙ ap Some (omega arith);
    } in
    rw (← shorter_is instrs n (omega arith))
    (IsPlace-lists (words instrs) (numbers_from 0 6) n w (λ j z e. sym (word_length instrs z j w e)) n at q in_words)
