-- The loop that computes all costs, length by length.
use Rattle.std.proofs.Common.{◌≡◌, ◌∙◌, ℕ, zero, suc, ◌+◌, ◌-◌, ◌*◌, ◌^◌, ◌<◌, ◌≤◌, List, [], ◌∷◌, ◌++◌, length, map, take, drop, get_or, slice_get, Some, refl, sym, ap, subst, arith, add-one, append_assoc, append-nil, length-append, length-drop, get_or-drop}
use Rattle.std.specs.List.{flat_map, sum_by, All}
use Rattle.std.proofs.Math.Seq.{take-suc}
use Rattle.std.proofs.lemmas.List.{map-append, length-map, get_or_append_left, drop_at}
use Rattle.std.proofs.lemmas.List.Concat.{flat_map-append}
use Rattle.std.proofs.lemmas.List.Elements.{All-nil, All-cons, All-head, All-tail, All-append, All-map, All-same}
use Rattle.std.proofs.lemmas.List.Sums.{sum_by-append}
use Rattle.thumb_instr.specs.declared.instr.Instr.{Instr}
use Rattle.seq_enum.specs.Alphabet.{numbers_from, words}
use Rattle.seq_enum.specs.Places.{sum_below}
use Rattle.thumb_instr.specs.Parts.{parts_of}
use Rattle.seq_enum.proofs.Words.{word_length, length-words}
use Rattle.seq_enum.specs.Costs.{AreCosts, cost_in, mnemonic, weight_under}

-- ---- numbers

pub numbers_split : (first m n : ℕ) → numbers_from first (m + n) ≡ numbers_from first m ++ numbers_from (first + m) n
unfolding numbers_from
numbers_split first zero n =
    let p : 0 + n ≡ n = omega arith in
    let q : first + 0 ≡ first = omega arith in
    rw (p, q) refl
numbers_split first (suc m) n =
    let p : suc m + n ≡ suc (m + n) = omega arith in
    let q : suc first + m ≡ first + suc m = omega arith in
    rw p (ap (λ xs. first ∷ xs) (numbers_split (suc first) m n ∙ ap (λ b. numbers_from (suc first) m ++ numbers_from b n) q))

pub numbers_push : (n : ℕ) → numbers_from 0 (n + 1) ≡ numbers_from 0 n ++ n ∷ []
unfolding numbers_from
numbers_push n = let none : 0 + n ≡ n = omega arith in numbers_split 0 n 1 ∙ ap (λ m. numbers_from 0 n ++ m ∷ []) none

-- ---- one place more

pub next_place : (f : ℕ → List ℕ) (old now new : List ℕ) (first place w : ℕ) → first ≤ place → place < length old → now ≡ old ++ flat_map f (take (place - first) (drop first old)) → w ≡ get_or now place w → new ≡ now ++ f w
    → new ≡ old ++ flat_map f (take (place + 1 - first) (drop first old))
next_place f old now new first place w low high e at is =
    let i = place - first in
    let back = drop first old in
    let within : i < length back = omega (arith, length-drop first old) in
    let sum : first + i ≡ place = omega arith in
    let read : get_or back i w ≡ w = get_or-drop first old i w ∙ ap (λ j. get_or old j w) sum ∙ sym (at ∙ ap (λ ws. get_or ws place w) e ∙ get_or_append_left old (flat_map f (take i back)) w place high) in
    let more : take (place + 1 - first) back ≡ take i back ++ w ∷ [] = (let next : place + 1 - first ≡ suc i = omega arith in ap (λ n. take n back) next ∙ take-suc back i w within ∙ ap (λ x. take i back ++ x ∷ []) read) in
    is ∙ ap (λ ws. ws ++ f w) e ∙ append_assoc old (flat_map f (take i back)) (f w)
    ∙ ap (λ ws. old ++ ws) (ap (λ ws. flat_map f (take i back) ++ ws) (sym (append-nil (f w))) ∙ sym (flat_map-append f (take i back) (w ∷ [])) ∙ ap (flat_map f) (sym more))

-- ---- sequences by their lengths

abbrev pub up_to : List Instr → ℕ → List (List Instr)
up_to alphabet count = flat_map (words alphabet) (numbers_from 0 count)

pub up_more : (alphabet : List Instr) (n : ℕ) → up_to alphabet (n + 1) ≡ up_to alphabet n ++ words alphabet n
up_more alphabet n = ap (flat_map (words alphabet)) (numbers_push n) ∙ flat_map-append (words alphabet) (numbers_from 0 n) (n ∷ []) ∙ ap (λ ws. up_to alphabet n ++ ws) (append-nil (words alphabet n))

pub up_none : (alphabet : List Instr) → up_to alphabet 0 ≡ []
unfolding numbers_from
up_none alphabet = refl

up_one : (alphabet : List Instr) → up_to alphabet 1 ≡ [] ∷ []
unfolding numbers_from words
up_one alphabet = refl

-- ---- weights

get_small : (xs : List ℕ) (m : ℕ) → All (λ n. (1 ≤ n) × (n ≤ 64)) xs → get_or xs m 1 ≤ 64
get_small [] m all = omega arith
get_small (x ∷ xs) zero all = (All-head (λ n. (1 ≤ n) × (n ≤ 64)) x xs all).1
get_small (x ∷ xs) (suc m) all = get_small xs m (All-tail (λ n. (1 ≤ n) × (n ≤ 64)) x xs all)

pub All-from_slice_get : {X : Type 0} (P : X → Type 0) (xs : List X) → ((i : ℕ) (x : X) → slice_get xs i ≡ Some x → P x) → All P xs
All-from_slice_get P [] each = All-nil P
All-from_slice_get P (x ∷ xs) each = All-cons P x xs (each 0 x refl) (All-from_slice_get P xs (λ i. each (suc i)))

module _ (costs : List ℕ) where
  pub more_weights : (ws alphabet : List Instr) → map (weight_under (Some costs)) (map (λ x. ws ++ x ∷ []) alphabet) ≡ map (λ c. weight_under (Some costs) ws + c) (map (cost_in costs) alphabet)
  more_weights ws [] = refl
  more_weights ws (x ∷ alphabet) =
      let one : sum_by (cost_in costs) (ws ++ x ∷ []) ≡ sum_by (cost_in costs) ws + cost_in costs x = sum_by-append (cost_in costs) ws (x ∷ []) ∙ omega arith in
      ap (λ (n : ℕ). n ∷ map (weight_under (Some costs)) (map (λ y. ws ++ y ∷ []) alphabet)) one ∙ ap (λ ns. (sum_by (cost_in costs) ws + cost_in costs x) ∷ ns) (more_weights ws alphabet)

  longer_weights : (alphabet : List Instr) (seqs : List (List Instr)) → map (weight_under (Some costs)) (flat_map (λ w. map (λ x. w ++ x ∷ []) alphabet) seqs)
      ≡ flat_map (λ w. map (λ c. w + c) (map (cost_in costs) alphabet)) (map (weight_under (Some costs)) seqs)
  longer_weights alphabet [] = refl
  longer_weights alphabet (s ∷ seqs) =
      map-append (weight_under (Some costs)) (map (λ x. s ++ x ∷ []) alphabet) (flat_map (λ w. map (λ x. w ++ x ∷ []) alphabet) seqs)
      ∙ ap (λ ns. ns ++ map (weight_under (Some costs)) (flat_map (λ w. map (λ x. w ++ x ∷ []) alphabet) seqs)) (more_weights s alphabet)
      ∙ ap (λ ns. map (λ c. weight_under (Some costs) s + c) (map (cost_in costs) alphabet) ++ ns) (longer_weights alphabet seqs)

  pub begun : (alphabet : List Instr) → 0 ∷ [] ≡ map (weight_under (Some costs)) (up_to alphabet 1)
  begun alphabet = sym (ap (map (weight_under (Some costs))) (up_one alphabet))

  pub grown : (alphabet : List Instr) (instr_costs : List ℕ) (n first : ℕ) (now new : List ℕ) → instr_costs ≡ map (cost_in costs) alphabet → now ≡ map (weight_under (Some costs)) (up_to alphabet (n + 1)) → first ≡ length (up_to alphabet n)
      → new ≡ now ++ flat_map (λ w. map (λ c. w + c) instr_costs) (drop first now) → new ≡ map (weight_under (Some costs)) (up_to alphabet (n + 1 + 1))
  unfolding words
  grown alphabet instr_costs n first now new of e size is =
      let shorter = map (weight_under (Some costs)) (up_to alphabet n) in
      let longest = map (weight_under (Some costs)) (words alphabet n) in
      let parts : now ≡ shorter ++ longest = e ∙ ap (map (weight_under (Some costs))) (up_more alphabet n) ∙ map-append (weight_under (Some costs)) (up_to alphabet n) (words alphabet n) in
      let back : drop first now ≡ longest = ap (drop first) parts ∙ drop_at shorter longest first (length-map (up_to alphabet n) (weight_under (Some costs)) ∙ sym size) in
      let next : words alphabet (n + 1) ≡ flat_map (λ w. map (λ x. w ++ x ∷ []) alphabet) (words alphabet n) = ap (words alphabet) (add-one n) in
      is ∙ ap (λ ls. now ++ flat_map (λ w. map (λ c. w + c) ls) (drop first now)) of
      ∙ ap (λ ws. now ++ flat_map (λ w. map (λ c. w + c) (map (cost_in costs) alphabet)) ws) back
      ∙ ap (λ ws. now ++ ws) (sym (longer_weights alphabet (words alphabet n)) ∙ ap (map (weight_under (Some costs))) (sym next))
      ∙ ap (λ ws. ws ++ map (weight_under (Some costs)) (words alphabet (n + 1))) e
      ∙ sym (map-append (weight_under (Some costs)) (up_to alphabet (n + 1)) (words alphabet (n + 1)))
      ∙ ap (map (weight_under (Some costs))) (sym (up_more alphabet (n + 1)))

  -- ---- bounds

  cost_small : AreCosts costs → (x : Instr) → cost_in costs x ≤ 64
  cost_small are x = get_small costs (mnemonic (parts_of x).kind) are.each

  pub weight_small : AreCosts costs → (seq : List Instr) → weight_under (Some costs) seq ≤ 64 * length seq
  weight_small are [] = omega arith
  weight_small are (x ∷ seq) =
      let sum : weight_under (Some costs) (x ∷ seq) ≡ cost_in costs x + weight_under (Some costs) seq = sum_by-append (cost_in costs) (x ∷ []) seq ∙ omega arith in
      let size : length (x ∷ seq) ≡ suc (length seq) = refl in
      omega (arith, cost_small are x, weight_small are seq, sum, size)

  pub words_small : AreCosts costs → (alphabet : List Instr) (n : ℕ) → n ≤ 5 → All (λ w. w ≤ 320) (map (weight_under (Some costs)) (words alphabet n))
  words_small are alphabet n short =
      All-map (λ w. w ≤ 320) (weight_under (Some costs)) (words alphabet n)
      (All-from_slice_get (λ seq. weight_under (Some costs) seq ≤ 320) (words alphabet n) (λ i seq at. omega (arith, weight_small are seq, word_length alphabet n i seq at)))

  pub all_small : AreCosts costs → (alphabet : List Instr) (n : ℕ) → n ≤ 6 → All (λ w. w ≤ 320) (map (weight_under (Some costs)) (up_to alphabet n))
  all_small are alphabet zero short = subst (λ seqs. All (λ w. w ≤ 320) (map (weight_under (Some costs)) seqs)) (sym (up_none alphabet)) (All-nil (λ w. w ≤ 320))
  all_small are alphabet (suc n) short =
      let more : map (weight_under (Some costs)) (up_to alphabet (suc n)) ≡ map (weight_under (Some costs)) (up_to alphabet n) ++ map (weight_under (Some costs)) (words alphabet n) =
      ap (λ m. map (weight_under (Some costs)) (up_to alphabet m)) (sym (add-one n)) ∙ ap (map (weight_under (Some costs))) (up_more alphabet n) ∙ map-append (weight_under (Some costs)) (up_to alphabet n) (words alphabet n) in
      All-same (λ w. w ≤ 320) _ _ more (All-append (λ w. w ≤ 320) _ _ (all_small are alphabet n (omega arith)) (words_small are alphabet n (omega arith)))

pub length-up_to : (alphabet : List Instr) (n : ℕ) → length (up_to alphabet n) ≡ sum_below (λ m. length alphabet ^ m) n
unfolding sum_below
length-up_to alphabet zero = ap length (up_none alphabet)
length-up_to alphabet (suc n) =
    ap (λ m. length (up_to alphabet m)) (sym (add-one n)) ∙ ap length (up_more alphabet n) ∙ length-append (up_to alphabet n) (words alphabet n)
    ∙ omega (arith, length-up_to alphabet n, length-words alphabet n)
