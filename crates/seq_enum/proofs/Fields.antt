-- Lists of bounded numbers, compared with the plain numbers that they hold.
use Rattle.std.proofs.Common.{◌≡◌, ℕ, zero, suc, ◌+◌, ◌<◌, ◌≤◌, ◌==◌, Bool, true, false, cond, not, ◌&&◌, nat_le, nat_lt, filter, List, [], ◌∷◌, ◌++◌, map, length, refl, sym, ◌∙◌, ap, arith, Some, slice_get, lt-ltb, le-leb}
use Rattle.std.specs.Option.{option_map}
use Rattle.std.proofs.lemmas.Option.{slice_get-map, slice_get_within, same_Some}
use Rattle.std.proofs.lemmas.List.{length-map}
use Rattle.thumb_instr.specs.declared.within.Within.{Within}
use Rattle.seq_enum.specs.Alphabet.{numbers_from, if_within, those_within, inside, registers, others}
use Rattle.seq_enum.proofs.Numbered.{numbers_at}
use Rattle.seq_enum.proofs.Ascending.{firsts, firsts_but}
use Rattle.seq_enum.proofs.CostLines.{length-from}

module _ {a b : ℕ} where
  abbrev pub numbers : List (Within a b) → List ℕ
  numbers xs = map (λ x. x.number) xs

  pub number_by : (xs : List (Within a b)) (ns : List ℕ) → numbers xs ≡ ns → (i : ℕ) (x : Within a b) → slice_get xs i ≡ Some x → slice_get ns i ≡ Some x.number
  number_by xs ns same i x e =
      sym (ap (λ ms. slice_get ms i) same) ∙ slice_get-map (λ y. y.number) xs i ∙ ap (option_map (λ y. y.number)) e

  pub length_by : (xs : List (Within a b)) (ns : List ℕ) → numbers xs ≡ ns → length xs ≡ length ns
  length_by xs ns same = sym (length-map xs (λ x. x.number)) ∙ ap length same

-- the numbers that a field holds are those inside its range
within_numbers_at : (a b n : ℕ) (rest : List (Within a b)) (high low : Bool) (h : nat_le a n ≡ high) (k : nat_lt n b ≡ low)
    → numbers (if_within a b n high low h k ++ rest) ≡ cond (high && low) (n ∷ numbers rest) (numbers rest)
within_numbers_at a b n rest true true h k = refl
within_numbers_at a b n rest true false h k = refl
within_numbers_at a b n rest false true h k = refl
within_numbers_at a b n rest false false h k = refl

pub within_numbers : (a b : ℕ) (ns : List ℕ) → numbers (those_within a b ns) ≡ filter (inside a b) ns
unfolding those_within
within_numbers a b [] = refl
within_numbers a b (n ∷ ns) =
    within_numbers_at a b n (those_within a b ns) (nat_le a n) (nat_lt n b) refl refl
    ∙ ap (λ ms. cond (inside a b n) (n ∷ ms) ms) (within_numbers a b ns)

pub within_length : (a b : ℕ) (ns : List ℕ) → length (those_within a b ns) ≡ length (filter (inside a b) ns)
within_length a b ns = length_by (those_within a b ns) (filter (inside a b) ns) (within_numbers a b ns)

-- every number below 8 is a register's
all_inside : (first count : ℕ) → first + count ≤ 8 → filter (inside 0 8) (numbers_from first count) ≡ numbers_from first count
unfolding numbers_from
all_inside first zero h = refl
all_inside first (suc count) h =
    rw (le-leb 0 first (omega arith), lt-ltb first 8 (omega arith)) (ap (λ ns. first ∷ ns) (all_inside (suc first) count (omega arith)))

pub register_numbers : (k : ℕ) → k ≤ 8 → numbers (registers k) ≡ firsts k
register_numbers k h = within_numbers 0 8 (numbers_from 0 k) ∙ all_inside 0 k (omega arith)

numbers_but : {a b : ℕ} (p : ℕ → Bool) (xs : List (Within a b)) → numbers (filter (λ x. p x.number) xs) ≡ filter p (numbers xs)
numbers_but p [] = refl
numbers_but p (x ∷ xs) =
    elim (p x.number) as (λ t. numbers (cond t (x ∷ filter (λ y. p y.number) xs) (filter (λ y. p y.number) xs)) ≡ cond t (x.number ∷ filter p (numbers xs)) (filter p (numbers xs))) [
      | true ↦ ap (λ ns. x.number ∷ ns) (numbers_but p xs)
      | false ↦ numbers_but p xs
    ]

pub other_numbers : (k : ℕ) (d : Within 0 8) → k ≤ 8 → numbers (others k d) ≡ firsts_but k d.number
other_numbers k d h = numbers_but (λ n. not (n == d.number)) (registers k) ∙ ap (filter (λ n. not (n == d.number))) (register_numbers k h)

-- a register at a place is below k
pub register_low : (k j : ℕ) (d : Within 0 8) → k ≤ 8 → slice_get (registers k) j ≡ Some d → d.number < k
register_low k j d few e =
    let at : slice_get (firsts k) j ≡ Some d.number = number_by (registers k) (firsts k) (register_numbers k few) j d e in
    let within : j < k = omega (arith, slice_get_within (firsts k) j d.number at, length-from 0 k) in
    omega (arith, same_Some (0 + j) d.number (sym (numbers_at 0 k j within) ∙ at))
