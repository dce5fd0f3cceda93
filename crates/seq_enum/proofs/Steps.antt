-- A walk from one sequence to the next.
use Rattle.std.proofs.Common.{◌≡◌, ℕ, zero, suc, ◌+◌, ◌-◌, ◌*◌, ◌/◌, ◌%◌, ◌^◌, ◌<◌, ◌≤◌, List, [], ◌∷◌, ◌++◌, map, take, drop, length, refl, sym, ◌∙◌, ap, arith, subst, Option, Some, None, slice_get}
use Rattle.std.specs.Option.{option_map}
use Rattle.std.specs.List.{flat_map}
use Rattle.std.proofs.lemmas.Option.{slice_get-map, slice_get_within, option_and_then_some, same_Some}
use Rattle.std.proofs.lemmas.List.{length-map}
use Rattle.std.proofs.lemmas.Nat.{div-add-mod', mod-mul-add, mod_below}
use Rattle.std.proofs.Math.Nat.{mod-eq_of_lt}
use Rattle.std.proofs.Math.Seq.{take-append_seam}
use Rattle.thumb_instr.specs.declared.instr.Instr.{Instr}
use Rattle.seq_enum.specs.Alphabet.{numbers_from, words, sequences_of}
use Rattle.seq_enum.specs.Places.{sum_below}
use Rattle.seq_enum.specs.Walks.{Stands, shorter}
use Rattle.seq_enum.proofs.Numbered.{get-flat_map-digits, get-flat_map}
use Rattle.seq_enum.proofs.Words.{power_fits, length-words, word_length, word_here, word_later, word_start}

-- behind the shorter sequences come those of n instructions
past_shorter : (alphabet : List Instr) (n p : ℕ) → n ≤ 5 → slice_get (sequences_of alphabet) (shorter alphabet n + p) ≡ slice_get (flat_map (words alphabet) (drop n (numbers_from 0 6))) p
unfolding sum_below
past_shorter alphabet zero p h = sym (word_start alphabet (0 + p)) ∙ ap (λ q. slice_get (flat_map (words alphabet) (drop 0 (numbers_from 0 6))) q) (omega arith)
past_shorter alphabet (suc n) p h =
    let size = length alphabet ^ n in
    let place : shorter alphabet n + size + p ≡ shorter alphabet n + (size + p) = omega arith in
    let left : size + p - size ≡ p = omega arith in
    let next : n + 1 ≡ suc n = omega arith in
    ap (slice_get (sequences_of alphabet)) place
    ∙ past_shorter alphabet n (size + p) (omega arith)
    ∙ word_later alphabet n (size + p) (omega arith) (omega arith)
    ∙ ap (λ q. slice_get (flat_map (words alphabet) (drop (n + 1) (numbers_from 0 6))) q) left
    ∙ ap (λ m. slice_get (flat_map (words alphabet) (drop m (numbers_from 0 6))) p) next

-- a walk's sequence has the walk's number
pub stands_at : (alphabet seq : List Instr) (number last : ℕ) → Stands alphabet seq number last → slice_get (sequences_of alphabet) number ≡ Some seq
stands_at alphabet seq number last s =
    let n = length seq in
    let p = number - shorter alphabet n in
    let low : p < length alphabet ^ n = omega (arith, slice_get_within (words alphabet n) p seq s.word, length-words alphabet n) in
    let is : number ≡ shorter alphabet n + p = omega (arith, s.behind) in
    ap (slice_get (sequences_of alphabet)) is ∙ past_shorter alphabet n p s.short ∙ word_here alphabet n p (omega (arith, s.short)) low ∙ s.word

-- the empty sequence has number 0
pub stands_start : (alphabet : List Instr) → 0 < length alphabet → length alphabet ≤ 1952 → Stands alphabet [] 0 0
unfolding words sum_below
stands_start alphabet some few = record { some = some; few = few; short = omega arith; behind = omega arith; word = refl; digit = mod-eq_of_lt some }

-- the sequence at a place among those of n instructions
pub stands_found : (alphabet seq : List Instr) (number n left : ℕ) → 0 < length alphabet → length alphabet ≤ 1952 → n ≤ 5 → shorter alphabet n + left ≡ number
    → slice_get (words alphabet n) left ≡ Some seq → Stands alphabet seq number (left % length alphabet)
stands_found alphabet seq number n left some few short is word =
    let same : n ≡ length seq = sym (word_length alphabet n left seq word) in
    let rest : number - shorter alphabet n ≡ left = omega (arith, is) in
    let behind : shorter alphabet n ≤ number = omega (arith, is) in
    record {
      some = some;
      few = few;
      short = omega (arith, same, short);
      behind = subst (λ (m : ℕ). shorter alphabet m ≤ number) same behind;
      word = subst (λ (m : ℕ). slice_get (words alphabet m) (number - shorter alphabet m) ≡ Some seq) same (ap (slice_get (words alphabet n)) rest ∙ word);
      digit = subst (λ (m : ℕ). (number - shorter alphabet m) % length alphabet ≡ left % length alphabet) same (ap (λ p. p % length alphabet) rest);
    }

-- the sequence with the last instruction replaced by the next one
next_word : (alphabet : List Instr) (m p : ℕ) (seq : List Instr) (y : Instr) → 0 < length alphabet → slice_get (words alphabet (suc m)) p ≡ Some seq
    → p % length alphabet + 1 < length alphabet → slice_get alphabet (p % length alphabet + 1) ≡ Some y
    → slice_get (words alphabet (suc m)) (p + 1) ≡ Some (take m seq ++ y ∷ [])
unfolding words
next_word alphabet m p seq y some at low instr =
    let size = length alphabet in
    let make : List Instr → List (List Instr) = λ w. map (λ x. w ++ x ∷ []) alphabet in
    let each : (j : ℕ) (w : List Instr) → slice_get (words alphabet m) j ≡ Some w → length (make w) ≡ size = λ j w e. length-map alphabet (λ x. w ++ x ∷ []) in
    let split = sym (get-flat_map-digits make size some (words alphabet m) each p) ∙ at in
    let place : p + 1 ≡ p / size * size + (p % size + 1) = omega (arith, div-add-mod' p size) in
    option_and_then_some (λ w. slice_get (make w) (p % size)) (slice_get (words alphabet m) (p / size)) seq split
    (λ w front here. rest w front (slice_get alphabet (p % size)) (sym (slice_get-map (λ x. w ++ x ∷ []) alphabet (p % size)) ∙ here)
    (ap (slice_get (flat_map make (words alphabet m))) place
    ∙ get-flat_map make size (words alphabet m) each (p / size) (p % size + 1) low
    ∙ rw front (slice_get-map (λ x. w ++ x ∷ []) alphabet (p % size + 1) ∙ ap (option_map (λ x. w ++ x ∷ [])) instr)))
  where
    rest : (w : List Instr) → slice_get (words alphabet m) (p / length alphabet) ≡ Some w → (o : Option Instr) → option_map (λ x. w ++ x ∷ []) o ≡ Some seq
        → slice_get (flat_map (λ v. map (λ x. v ++ x ∷ []) alphabet) (words alphabet m)) (p + 1) ≡ Some (w ++ y ∷ [])
        → slice_get (flat_map (λ v. map (λ x. v ++ x ∷ []) alphabet) (words alphabet m)) (p + 1) ≡ Some (take m seq ++ y ∷ [])
    rest w front None e next = absurd cc
    rest w front (Some x) e next =
        let size : length w ≡ m = word_length alphabet m (p / length alphabet) w front in
        let is : take m seq ≡ w = ap (take m) (sym (same_Some _ _ e)) ∙ ap (λ n. take n (w ++ x ∷ [])) (sym size) ∙ take-append_seam w (x ∷ []) in
        next ∙ ap (λ v. Some (v ++ y ∷ [])) (sym is)

pub next_stands : (alphabet seq : List Instr) (number last : ℕ) (y : Instr) → Stands alphabet seq number last → 0 < length seq → last + 1 < length alphabet
    → slice_get alphabet (last + 1) ≡ Some y → Stands alphabet (take (length seq - 1) seq ++ y ∷ []) (number + 1) (last + 1)
next_stands alphabet seq number last y s some low instr =
    let size = length alphabet in
    let n = length seq in
    let m = n - 1 in
    let p = number - shorter alphabet n in
    let is : suc m ≡ n = omega arith in
    let digit : p % size ≡ last = s.digit in
    let here : slice_get (words alphabet (suc m)) p ≡ Some seq = subst (λ (k : ℕ). slice_get (words alphabet k) p ≡ Some seq) (sym is) s.word in
    let next : slice_get (words alphabet (suc m)) (p + 1) ≡ Some (take m seq ++ y ∷ []) =
    next_word alphabet m p seq y s.some here (rw digit low) (rw digit instr) in
    let placed : slice_get (words alphabet n) (p + 1) ≡ Some (take m seq ++ y ∷ []) = subst (λ (k : ℕ). slice_get (words alphabet k) (p + 1) ≡ Some (take m seq ++ y ∷ [])) is next in
    let found = stands_found alphabet (take m seq ++ y ∷ []) (number + 1) n (p + 1) s.some s.few s.short (omega (arith, s.behind)) placed in
    let place : p + 1 ≡ p / size * size + (last + 1) = omega (arith, div-add-mod' p size, digit) in
    let turned : (p + 1) % size ≡ last + 1 = ap (λ q. q % size) place ∙ mod-mul-add (p / size) size (last + 1) low in
    subst (λ (d : ℕ). Stands alphabet (take m seq ++ y ∷ []) (number + 1) d) turned found

sums_fit : (size n : ℕ) → size ≤ 1952 → n ≤ 5 → sum_below (λ m. size ^ m) n ≤ n * 2 ^ 61
unfolding sum_below
sums_fit size zero h k = omega arith
sums_fit size (suc n) h k =
    let rest = sums_fit size n h (omega arith) in
    let one = power_fits size n h (omega arith) in
    omega (arith, rest, one)

-- numbers are small
pub stands_small : (alphabet seq : List Instr) (number last : ℕ) → Stands alphabet seq number last → (number + 1 < 2 ^ 64) × (last < length alphabet)
stands_small alphabet seq number last s =
    let n = length seq in
    let p = number - shorter alphabet n in
    let low : p < length alphabet ^ n = omega (arith, slice_get_within (words alphabet n) p seq s.word, length-words alphabet n) in
    let sums : shorter alphabet n ≤ n * 2 ^ 61 = sums_fit (length alphabet) n s.few s.short in
    let fits = power_fits (length alphabet) n s.few s.short in
    (omega (arith, s.behind, s.short, low, sums, fits), omega (arith, mod_below p (length alphabet) s.some, s.digit))
