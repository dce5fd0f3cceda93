-- The sequences with fewer instructions than some number, among all of an alphabet.
use Rattle.std.proofs.Common.{◌≡◌, ℕ, zero, suc, ◌+◌, ◌-◌, ◌*◌, ◌^◌, ◌<◌, ◌≤◌, List, [], ◌∷◌, ◌++◌, inl, inr, length, refl, sym, ◌∙◌, ap, arith, Option, Some, None, slice_get, length-append, add-one, zero-add, All, Contains, map, take, get_or}
use Rattle.std.specs.List.{flat_map}
use Rattle.std.specs.Option.{option_map}
use Rattle.std.proofs.lemmas.List.{take_more, take_all, length-map, length-take-le}
use Rattle.std.proofs.lemmas.List.Elements.{All-take}
use Rattle.std.proofs.lemmas.List.Concat.{flat_map-append}
use Rattle.std.proofs.lemmas.Option.{slice_get_within, slice_get-map, slice_get-get_or, slice_get_cases}
use Rattle.std.proofs.lemmas.Bool.Decides.{leb_tells}
use Rattle.thumb_instr.specs.declared.instr.Instr.{Instr}
use Rattle.seq_enum.specs.Alphabet.{numbers_from, alphabet, words, sequences, sequences_of, IsOver}
use Rattle.seq_enum.specs.Places.{sum_below}
use Rattle.seq_enum.proofs.Numbered.{get_back, get-flat_map}
use Rattle.seq_enum.proofs.Words.{length-words}
use Rattle.fingerprints.proofs.PrintCandidates.{length_within}
use Rattle.table_audit.specs.Shorter.{sequences_below}
use Rattle.common_lemmas.proofs.Lists.{get_front}
use Rattle.seq_enum.proofs.Weighing.{numbers_split}

-- all sequences are those of fewer than n instructions, followed by the longer ones
sequences_split : (k : ℕ) (pool : List ℕ) (n : ℕ) → n ≤ 6 → sequences k pool ≡ sequences_below k pool n ++ flat_map (words (alphabet k pool)) (numbers_from n (6 - n))
unfolding sequences_of sequences_below
sequences_split k pool n h =
    let whole : n + (6 - n) ≡ 6 = omega arith in
    let low : 0 + n ≡ n = omega arith in
    let split : numbers_from 0 6 ≡ numbers_from 0 n ++ numbers_from n (6 - n) =
    ap (numbers_from 0) (sym whole) ∙ numbers_split 0 n (6 - n) ∙ ap (λ m. numbers_from 0 n ++ numbers_from m (6 - n)) low in
    ap (flat_map (words (alphabet k pool))) split ∙ flat_map-append (words (alphabet k pool)) (numbers_from 0 n) (numbers_from n (6 - n))

-- the number of a sequence among the shorter ones is its number among all
pub below_in : (k : ℕ) (pool : List ℕ) (n q : ℕ) (s : List Instr) → n ≤ 6 → slice_get (sequences_below k pool n) q ≡ Some s
    → (slice_get (sequences k pool) q ≡ Some s) × (length s < n)
unfolding sequences_below
below_in k pool n q s h e =
    let within : q < length (sequences_below k pool n) = slice_get_within (sequences_below k pool n) q s e in
    let bounds = length_within (alphabet k pool) 0 n q s e in (
      ap (λ xs. slice_get xs q) (sequences_split k pool n h) ∙ get_front (sequences_below k pool n) (flat_map (words (alphabet k pool)) (numbers_from n (6 - n))) q within ∙ e,
      omega (arith, bounds.1),
    )

-- the converse
pub below_from : (k : ℕ) (pool : List ℕ) (n q : ℕ) (s : List Instr) → n ≤ 6 → slice_get (sequences k pool) q ≡ Some s → length s < n
    → slice_get (sequences_below k pool n) q ≡ Some s
below_from k pool n q s h e short =
    let front = sequences_below k pool n in
    let back = flat_map (words (alphabet k pool)) (numbers_from n (6 - n)) in
    let at : slice_get (front ++ back) q ≡ Some s = sym (ap (λ xs. slice_get xs q) (sequences_split k pool n h)) ∙ e in
    elim (leb_tells (length front) q) [
      | inl past ↦ (
          let there : slice_get back (q - length front) ≡ Some s = sym (get_back front back q past.1) ∙ at in
          let bounds = length_within (alphabet k pool) n (6 - n) (q - length front) s there in
          absurd (omega (arith, bounds.0))
          )
      | inr low ↦ sym (get_front front back q low.1) ∙ at
    ]

-- how many there are
pub length-sequences_below : (k : ℕ) (pool : List ℕ) (n : ℕ) → length (sequences_below k pool n) ≡ sum_below (λ m. length (alphabet k pool) ^ m) n
unfolding sequences_below sum_below numbers_from
length-sequences_below k pool zero = refl
length-sequences_below k pool (suc n) =
    let instrs = alphabet k pool in
    let split : numbers_from 0 (suc n) ≡ numbers_from 0 n ++ n ∷ [] = ap (numbers_from 0) (sym (add-one n)) ∙ numbers_split 0 n 1 ∙ ap (λ m. numbers_from 0 n ++ m ∷ []) (zero-add n) in
    ap (λ ns. length (flat_map (words instrs) ns)) split
    ∙ ap length (flat_map-append (words instrs) (numbers_from 0 n) (n ∷ []))
    ∙ length-append (flat_map (words instrs) (numbers_from 0 n)) (words instrs n ++ [])
    ∙ omega (arith, length-sequences_below k pool n, length-append (words instrs n) [], length-words instrs n)

-- the same, where the alphabet's size is known
pub count_is : (k : ℕ) (pool : List ℕ) (n m size count : ℕ) → size ≡ length (alphabet k pool) → m ≡ n → count ≡ sum_below (λ i. size ^ i) m → count ≡ length (sequences_below k pool n)
count_is k pool n m size count e f h = h ∙ ap (λ s. sum_below (λ i. s ^ i) m) e ∙ ap (λ j. sum_below (λ i. length (alphabet k pool) ^ i) j) f ∙ sym (length-sequences_below k pool n)

-- ---- the instructions of sequences ----

-- a sequence of instructions that are listed is a word
words_have : (instrs : List Instr) (n : ℕ) (s : List Instr) → length s ≡ n → All (Contains instrs) s → (i : ℕ) × (slice_get (words instrs n) i ≡ Some s)
unfolding words
words_have instrs zero [] size over = (0, refl)
words_have instrs zero (y ∷ ys) size over = absurd (omega arith)
words_have instrs (suc n) [] size over = absurd (omega arith)
words_have instrs (suc n) (y ∷ ys) size over =
    let s = y ∷ ys in
    let make : List Instr → List (List Instr) = λ w. map (λ x. w ++ x ∷ []) instrs in
    let low : n < length s = omega arith in
    let x = get_or s n y in
    let one = over n y low in
    let parts : take n s ++ x ∷ [] ≡ s = sym (take_more s n y low) ∙ take_all (n + 1) s (omega arith) in
    let front = words_have instrs n (take n s) (length-take-le n s (omega arith)) (All-take (Contains instrs) n s over) in
    let last : slice_get instrs one.0 ≡ Some x = slice_get-get_or instrs one.0 x one.1 ∙ ap Some one.2 in (
      front.0 * length instrs + one.0,
      get-flat_map make (length instrs) (words instrs n) (λ j w e. length-map instrs (λ v. w ++ v ∷ [])) front.0 one.0 one.1
          ∙ rw front.1 (slice_get-map (λ v. take n s ++ v ∷ []) instrs one.0 ∙ ap (option_map (λ v. take n s ++ v ∷ [])) last ∙ ap Some parts),
    )

-- so a sequence of at most five instructions has a number
pub has_number : (k : ℕ) (pool : List ℕ) (s : List Instr) → length s ≤ 5 → IsOver k pool s → (q : ℕ) × (slice_get (sequences k pool) q ≡ Some s)
unfolding numbers_from
has_number k pool s short over =
    let instrs = alphabet k pool in
    let n = length s in
    let word = words_have instrs n s refl over in
    let front = sequences_below k pool n in
    let more : 6 - n ≡ suc (5 - n) = omega arith in
    let rest = flat_map (words instrs) (numbers_from (suc n) (5 - n)) in
    let back : flat_map (words instrs) (numbers_from n (6 - n)) ≡ words instrs n ++ rest = ap (λ m. flat_map (words instrs) (numbers_from n m)) more in
    let low : word.0 < length (words instrs n) = slice_get_within (words instrs n) word.0 s word.1 in
    let place : length front + word.0 - length front ≡ word.0 = omega arith in (
      length front + word.0,
      ap (λ xs. slice_get xs (length front + word.0)) (sequences_split k pool n (omega arith) ∙ ap (λ xs. front ++ xs) back)
          ∙ get_back front (words instrs n ++ rest) (length front + word.0) (omega arith)
          ∙ ap (slice_get (words instrs n ++ rest)) place
          ∙ get_front (words instrs n) rest word.0 low
          ∙ word.1,
    )

-- ---- one of the shorter sequences, or none ----

pub below_short : (k : ℕ) (pool : List ℕ) (n q : ℕ) (o : Option (List Instr)) (s : List Instr) → n ≤ 6 → o ≡ slice_get (sequences k pool) q → o ≡ Some s → length s < n
    → Some s ≡ slice_get (sequences_below k pool n) q
below_short k pool n q o s h e f short = sym (below_from k pool n q s h (sym e ∙ f) short)

pub below_none : (k : ℕ) (pool : List ℕ) (n q : ℕ) (o : Option (List Instr)) → n ≤ 6 → o ≡ slice_get (sequences k pool) q → o ≡ None → None ≡ slice_get (sequences_below k pool n) q
below_none k pool n q o h e f = elim (slice_get_cases (sequences_below k pool n) q).1 [
  | inl p ↦ (
      let whole = below_in k pool n q p.0 h p.2 in
      let no : None ≡ Some p.0 = sym f ∙ e ∙ whole.0 in
      absurd (cc)
      )
  | inr p ↦ sym p.1
]
