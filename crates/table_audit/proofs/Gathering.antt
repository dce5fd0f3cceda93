-- The search of `lighter` finds each light sequence: it appends instructions to those found before.
use Rattle.std.proofs.Common.{◌≡◌, ℕ, zero, suc, ◌+◌, ◌-◌, ◌*◌, ◌/◌, ◌%◌, ◌^◌, ◌<◌, ◌≤◌, ◌⊎◌, ◌&&◌, inl, inr, Bool, true, false, List, [], ◌∷◌, ◌++◌, Option, Some, None, Contains, cond, filter, get_or, length, map, nat_lt, slice_get, refl, sym, ◌∙◌, ap, subst, arith, lt-ltb, add-one, append-nil, append_assoc, length-append}
use Rattle.std.specs.Option.{option_map, option_and_then}
use Rattle.std.proofs.Math.Nat.{mul-le-mul_left, mul-le-mul_right, pow-le-pow_left, pow-le-pow_right, pow-suc, pow-zero}
use Rattle.std.proofs.lemmas.Bool.{and_parts, and_from, cases_lt, ltb-true}
use Rattle.std.proofs.lemmas.List.{get_or_default, length-map}
use Rattle.std.proofs.lemmas.List.Elements.{Contains-append_left, Contains-append_right, Contains-append_cases, Contains-get_or, filter-append}
use Rattle.std.proofs.lemmas.Nat.{div-add-mod'}
use Rattle.std.proofs.lemmas.Option.{slice_get_within, slice_get_cases, slice_get-map, slice_get-get_or, get_or_from_slice_get, option_and_then_some, same_Some}
use Rattle.thumb_instr.specs.declared.instr.Instr.{Instr}
use Rattle.seq_enum.specs.Alphabet.{numbers_from, ascends_from, words, sequences_of}
use Rattle.seq_enum.specs.Costs.{cost_under, weight_under}
use Rattle.seq_enum.proofs.Numbered.{get_back, get-flat_map, get-flat_map-digits, numbers_at}
use Rattle.seq_enum.proofs.Words.{length-words, word_length}
use Rattle.fingerprints.specs.Outcomes.{sequences_below}
use Rattle.fingerprints.proofs.Growing.{below_none, below_more, below_longest}
use Rattle.fingerprints.proofs.Looking.{filter_has, filter_in, filter_does}
use Rattle.table_audit.specs.Shorter.{is_lighter}
use Rattle.table_audit.specs.Lighter.{AreLighter, is_light_instr, is_light_at}
use Rattle.table_audit.proofs.Below.{weight_push, few_numbers}
use Rattle.table_audit.proofs.Upcoming.{ascends_append, ascends_rises}
use Rattle.common_lemmas.proofs.Lists.{get_front}
use Rattle.seq_enum.proofs.Ascending.{ascends_numbers, ascends_filter}
use Rattle.seq_enum.proofs.CostLines.{length-from}
use Rattle.seq_enum.proofs.Weighing.{numbers_split}

-- ---- a sequence by its number ----

pub whole : (alphabet : List Instr) → sequences_of alphabet ≡ sequences_below alphabet 6
unfolding sequences_of sequences_below
whole alphabet = refl

-- where a sequence stands: behind all that are shorter, at its place among those that are as long
abbrev LocatedAmong : List Instr → ℕ → ℕ → List Instr → Type 0
LocatedAmong alphabet n q seq = (place : ℕ) × (q ≡ length (sequences_below alphabet n) + place) × (slice_get (words alphabet n) place ≡ Some seq)

located : (alphabet : List Instr) (n q : ℕ) (seq : List Instr) → slice_get (sequences_below alphabet n) q ≡ Some seq → LocatedAmong alphabet (length seq) q seq × (length seq < n)
located alphabet zero q seq e = absurd (let no : None ≡ Some seq = sym (ap (λ ws. slice_get ws q) (below_none alphabet)) ∙ e in cc)
located alphabet (suc n) q seq e =
    let front = sequences_below alphabet n in
    let split : slice_get (front ++ words alphabet n) q ≡ Some seq =
    ap (λ ws. slice_get ws q) (sym (ap (sequences_below alphabet) (sym (add-one n)) ∙ below_more alphabet n)) ∙ e in
    elim (cases_lt q (length front)) [
      | inl low ↦ (let r = located alphabet n q seq (sym (get_front front (words alphabet n) q low) ∙ split) in (r.0, omega (arith, r.1)))
      | inr past ↦ (
          let there : slice_get (words alphabet n) (q - length front) ≡ Some seq = sym (get_back front (words alphabet n) q past) ∙ split in
          let size : length seq ≡ n = word_length alphabet n (q - length front) seq there in
          let is : q ≡ length front + (q - length front) = omega (arith, past) in
          (subst (λ m. LocatedAmong alphabet m q seq) (sym size) (q - length front, is, there), omega (arith, size))
          )
    ]

-- how many are shorter
shorter_count : (alphabet : List Instr) (n : ℕ) → length (sequences_below alphabet (n + 1)) ≡ length (sequences_below alphabet n) + length alphabet ^ n
shorter_count alphabet n = ap (λ ws. length ws) (below_more alphabet n) ∙ length-append (sequences_below alphabet n) (words alphabet n) ∙ ap (λ m. length (sequences_below alphabet n) + m) (length-words alphabet n)

-- the number of the first sequence of n + 1 instructions, by that of the first of n instructions
pub next_count : (alphabet : List Instr) (n : ℕ) → length (sequences_below alphabet (n + 1)) ≡ length (sequences_below alphabet n) * length alphabet + 1
next_count alphabet zero =
    let none : length (sequences_below alphabet 0) ≡ 0 = ap (λ ws. length ws) (below_none alphabet) in
    let one : length alphabet ^ 0 ≡ 1 = pow-zero (length alphabet) in
    let product : length (sequences_below alphabet 0) * length alphabet ≡ 0 = ap (λ n. n * length alphabet) none ∙ omega arith in
    omega (arith, shorter_count alphabet 0, none, one, product)
next_count alphabet (suc n) =
    let again : length (sequences_below alphabet (suc n)) ≡ length (sequences_below alphabet n) * length alphabet + 1 = ap (λ m. length (sequences_below alphabet m)) (sym (add-one n)) ∙ next_count alphabet n in
    let before : length (sequences_below alphabet (suc n)) ≡ length (sequences_below alphabet n) + length alphabet ^ n = ap (λ m. length (sequences_below alphabet m)) (sym (add-one n)) ∙ shorter_count alphabet n in
    let power : length alphabet ^ suc n ≡ length alphabet ^ n * length alphabet = pow-suc (length alphabet) n in
    let product : length (sequences_below alphabet (suc n)) * length alphabet ≡ (length (sequences_below alphabet n) + length alphabet ^ n) * length alphabet = ap (λ m. m * length alphabet) before in
    omega (arith, shorter_count alphabet (suc n), again, power, product)

-- a bound on the number of words
power_four : (size n : ℕ) → size ≤ 1952 → n ≤ 4 → size ^ n ≤ 1952 ^ 4
power_four size n h k =
    let some : 0 < 1952 = omega arith in
    let one : size ^ n ≤ 1952 ^ n = pow-le-pow_left h n in
    let two : 1952 ^ n ≤ 1952 ^ 4 = pow-le-pow_right some k in
    omega arith

short_count : (alphabet : List Instr) (n : ℕ) → length alphabet ≤ 1952 → n ≤ 5 → length (sequences_below alphabet n) ≤ n * 1952 ^ 4
short_count alphabet zero few h = omega (arith, ap (λ ws. length ws) (below_none alphabet))
short_count alphabet (suc n) few h =
    let more : length (sequences_below alphabet (suc n)) ≡ length (sequences_below alphabet n) + length alphabet ^ n = ap (λ m. length (sequences_below alphabet m)) (sym (add-one n)) ∙ shorter_count alphabet n in
    omega (arith, more, short_count alphabet n few (omega (arith, h)), power_four (length alphabet) n few (omega (arith, h)))

-- a word with an instruction appended, by place
word_behind : (alphabet : List Instr) (n i j : ℕ) (w : List Instr) (x : Instr) → slice_get (words alphabet n) i ≡ Some w → slice_get alphabet j ≡ Some x → slice_get (words alphabet (suc n)) (i * length alphabet + j) ≡ Some (w ++ x ∷ [])
unfolding words
word_behind alphabet n i j w x front last =
    get-flat_map (λ v. map (λ y. v ++ y ∷ []) alphabet) (length alphabet) (words alphabet n) (λ h v e. length-map alphabet (λ y. v ++ y ∷ [])) i j (slice_get_within alphabet j x last)
    ∙ ap (option_and_then (λ v. slice_get (map (λ y. v ++ y ∷ []) alphabet) j)) front
    ∙ slice_get-map (λ y. w ++ y ∷ []) alphabet j ∙ ap (option_map (λ y. w ++ y ∷ [])) last

-- a word by its length and place is the sequence of its number
word_at : (alphabet : List Instr) (n m i : ℕ) (w : List Instr) → n < m → slice_get (words alphabet n) i ≡ Some w → slice_get (sequences_below alphabet m) (length (sequences_below alphabet n) + i) ≡ Some w
word_at alphabet n m i w h e =
    let front = sequences_below alphabet n in
    let there : length front + i - length front ≡ i = omega arith in
    let at : slice_get (sequences_below alphabet (n + 1)) (length front + i) ≡ Some w =
    ap (λ ws. slice_get ws (length front + i)) (below_more alphabet n) ∙ get_back front (words alphabet n) (length front + i) (omega arith) ∙ ap (slice_get (words alphabet n)) there ∙ e in
    below_longest alphabet (n + 1) m (length front + i) w (omega (arith, h)) at

-- the number of a sequence with an instruction appended
pub longer_at : (alphabet : List Instr) (n m j : ℕ) (w : List Instr) (x : Instr) → slice_get (sequences_below alphabet n) m ≡ Some w → slice_get alphabet j ≡ Some x
    → slice_get (sequences_below alphabet (n + 1)) (m * length alphabet + 1 + j) ≡ Some (w ++ x ∷ [])
longer_at alphabet n m j w x e last =
    let here = located alphabet n m w e in
    let place = here.0 in
    let base = length (sequences_below alphabet (length w)) in
    let product : m * length alphabet ≡ (base + place.0) * length alphabet = ap (λ q. q * length alphabet) place.1 in
    let number : length (sequences_below alphabet (length w + 1)) + (place.0 * length alphabet + j) ≡ m * length alphabet + 1 + j = omega (arith, next_count alphabet (length w), product) in
    let word : slice_get (words alphabet (length w + 1)) (place.0 * length alphabet + j) ≡ Some (w ++ x ∷ []) =
    ap (λ k. slice_get (words alphabet k) (place.0 * length alphabet + j)) (add-one (length w)) ∙ word_behind alphabet (length w) place.0 j w x place.2 last in
    subst (λ q. slice_get (sequences_below alphabet (n + 1)) q ≡ Some (w ++ x ∷ [])) number
    (word_at alphabet (length w + 1) (n + 1) (place.0 * length alphabet + j) (w ++ x ∷ []) (omega (arith, here.1)) word)

-- a sequence by the one without its last instruction
record IsLonger (alphabet : List Instr) (n q : ℕ) (seq : List Instr) : Type 0 where
  front : List Instr
  number : ℕ
  last : ℕ
  instr : Instr
  at : slice_get (sequences_below alphabet n) number ≡ Some front
  is_member : slice_get alphabet last ≡ Some instr
  is : q ≡ number * length alphabet + 1 + last
  parts : seq ≡ front ++ instr ∷ []

first_or_longer : (alphabet : List Instr) (n q : ℕ) (seq : List Instr) → 0 < length alphabet → slice_get (sequences_below alphabet n) q ≡ Some seq → (q ≡ 0) ⊎ IsLonger alphabet n q seq
unfolding words
first_or_longer alphabet n q seq some e = by (length seq) refl
  where
    here : LocatedAmong alphabet (length seq) q seq × (length seq < n)
    here = located alphabet n q seq e

    by : (m : ℕ) → length seq ≡ m → (q ≡ 0) ⊎ IsLonger alphabet n q seq
    by zero size =
        let place : LocatedAmong alphabet 0 q seq = subst (λ k. LocatedAmong alphabet k q seq) size here.0 in
        let none : length (sequences_below alphabet 0) ≡ 0 = ap (λ ws. length ws) (below_none alphabet) in
        let low = slice_get_within (words alphabet 0) place.0 seq place.2 in
        inl (omega (arith, place.1, none, low))
    by (suc m) size =
        let place : LocatedAmong alphabet (suc m) q seq = subst (λ k. LocatedAmong alphabet k q seq) size here.0 in
        let i = place.0 in
        let split : option_and_then (λ w. slice_get (map (λ x. w ++ x ∷ []) alphabet) (i % length alphabet)) (slice_get (words alphabet m) (i / length alphabet)) ≡ Some seq =
        sym (get-flat_map-digits (λ w. map (λ x. w ++ x ∷ []) alphabet) (length alphabet) some (words alphabet m) (λ h w f. length-map alphabet (λ x. w ++ x ∷ [])) i) ∙ place.2 in
        option_and_then_some (λ w. slice_get (map (λ x. w ++ x ∷ []) alphabet) (i % length alphabet)) (slice_get (words alphabet m) (i / length alphabet)) seq split (λ w front there.
        last w front (slice_get alphabet (i % length alphabet)) refl (sym (slice_get-map (λ x. w ++ x ∷ []) alphabet (i % length alphabet)) ∙ there))
      where
        place_of : LocatedAmong alphabet (suc m) q seq
        place_of = subst (λ k. LocatedAmong alphabet k q seq) size here.0

        last : (w : List Instr) → slice_get (words alphabet m) (place_of.0 / length alphabet) ≡ Some w → (o : Option Instr) → slice_get alphabet (place_of.0 % length alphabet) ≡ o → option_map (λ x. w ++ x ∷ []) o ≡ Some seq
            → (q ≡ 0) ⊎ IsLonger alphabet n q seq
        last w front None at is = absurd (cc)
        last w front (Some x) at is =
            let i = place_of.0 in
            let digits : i / length alphabet * length alphabet + i % length alphabet ≡ i = div-add-mod' i (length alphabet) in
            let next : length (sequences_below alphabet (suc m)) ≡ length (sequences_below alphabet m) * length alphabet + 1 = ap (λ k. length (sequences_below alphabet k)) (sym (add-one m)) ∙ next_count alphabet m in
            inr (record {
              front = w;
              number = length (sequences_below alphabet m) + i / length alphabet;
              last = i % length alphabet;
              instr = x;
              at = word_at alphabet m n (i / length alphabet) w (omega (arith, here.1, size)) front;
              is_member = at;
              is = omega (arith, place_of.1, digits, next);
              parts = sym (same_Some (w ++ x ∷ []) seq is);
            })

-- ---- light sequences ----

-- the number is that of a sequence of fewer than n instructions, which weighs less than the limit
pub record IsLight (costs : Option (List ℕ)) (alphabet : List Instr) (limit n q : ℕ) : Type 0 where
  pub seq : List Instr
  pub at : slice_get (sequences_below alphabet n) q ≡ Some seq
  pub light : weight_under costs seq < limit

-- the number is that of a sequence with an instruction appended
pub record IsBehind (alphabet : List Instr) (number q : ℕ) : Type 0 where
  pub from : number * length alphabet + 1 ≤ q
  pub to : q < number * length alphabet + 1 + length alphabet

-- a number below the count of sequences of fewer than n instructions is that of such a sequence
within_count : (alphabet : List Instr) (n m q : ℕ) (seq : List Instr) → n ≤ m → slice_get (sequences_below alphabet m) q ≡ Some seq → q < length (sequences_below alphabet n) → slice_get (sequences_below alphabet n) q ≡ Some seq
within_count alphabet n m q seq h e low = elim (slice_get_cases (sequences_below alphabet n) q).1 [
  | inl p ↦ (let same : p.0 ≡ seq = same_Some p.0 seq (sym (below_longest alphabet n m q p.0 h p.2) ∙ e) in p.2 ∙ ap (λ z. Some z) same)
  | inr p ↦ absurd (omega (arith, p.0, low))
]

-- of a light sequence's extensions the test keeps those that are light
module _ (costs : Option (List ℕ)) (alphabet : List Instr) (limit n number : ℕ) (w : List Instr) (at : slice_get (sequences_below alphabet n) number ≡ Some w) (light : weight_under costs w < limit) where
  abbrev begin : ℕ
  begin = number * length alphabet + 1

  abbrev keeps : ℕ → Bool
  keeps = is_light_at costs alphabet begin (limit - weight_under costs w) (length (sequences_below alphabet n))

  tested_light : (q : ℕ) → begin ≤ q → keeps q ≡ true → IsLight costs alphabet limit n q
  tested_light q from h = by (slice_get alphabet (q - begin)) refl both.1
    where
      both : (nat_lt q (length (sequences_below alphabet n)) ≡ true) × (is_light_instr costs (limit - weight_under costs w) (slice_get alphabet (q - begin)) ≡ true)
      both = and_parts (nat_lt q (length (sequences_below alphabet n))) (is_light_instr costs (limit - weight_under costs w) (slice_get alphabet (q - begin))) h

      by : (o : Option Instr) → slice_get alphabet (q - begin) ≡ o → is_light_instr costs (limit - weight_under costs w) o ≡ true → IsLight costs alphabet limit n q
      by None e k = absurd (cc)
      by (Some x) e k =
          let place : begin + (q - begin) ≡ q = omega (arith, from) in
          let longer : slice_get (sequences_below alphabet (n + 1)) q ≡ Some (w ++ x ∷ []) = subst (λ r. slice_get (sequences_below alphabet (n + 1)) r ≡ Some (w ++ x ∷ [])) place (longer_at alphabet n number (q - begin) w x at e) in
          record {
            seq = w ++ x ∷ [];
            at = within_count alphabet n (n + 1) q (w ++ x ∷ []) (omega arith) longer (ltb-true q (length (sequences_below alphabet n)) both.0);
            light = omega (arith, weight_push costs w x, ltb-true (cost_under costs x) (limit - weight_under costs w) k, light);
          }

  light_tested : (q : ℕ) → IsBehind alphabet number q → IsLight costs alphabet limit n q → keeps q ≡ true
  light_tested q behind l = by (slice_get alphabet (q - begin)) refl
    where
      by : (o : Option Instr) → slice_get alphabet (q - begin) ≡ o → keeps q ≡ true
      by None e = absurd (let one = slice_get-get_or alphabet (q - begin) in elim (slice_get_cases alphabet (q - begin)).1 [
        | inl p ↦ (let no : None ≡ Some p.0 = sym e ∙ p.2 in cc)
        | inr p ↦ omega (arith, p.0, behind.from, behind.to)
      ])
      by (Some x) e =
          let place : begin + (q - begin) ≡ q = omega (arith, behind.from) in
          let longer : slice_get (sequences_below alphabet (n + 1)) q ≡ Some (w ++ x ∷ []) = subst (λ r. slice_get (sequences_below alphabet (n + 1)) r ≡ Some (w ++ x ∷ [])) place (longer_at alphabet n number (q - begin) w x at e) in
          let same : l.seq ≡ w ++ x ∷ [] = same_Some l.seq (w ++ x ∷ []) (sym (below_longest alphabet n (n + 1) q l.seq (omega arith) l.at) ∙ longer) in
          let weight : weight_under costs l.seq ≡ weight_under costs w + cost_under costs x = ap (weight_under costs) same ∙ weight_push costs w x in
          and_from (nat_lt q (length (sequences_below alphabet n))) (is_light_instr costs (limit - weight_under costs w) (slice_get alphabet (q - begin)))
          (lt-ltb q (length (sequences_below alphabet n)) (slice_get_within (sequences_below alphabet n) q l.seq l.at))
          (ap (is_light_instr costs (limit - weight_under costs w)) e ∙ lt-ltb (cost_under costs x) (limit - weight_under costs w) (omega (arith, l.light, weight)))

-- ---- the numbers so far ----

-- all numbers are of light sequences, and those before the place were already extended by each instruction
pub record Queue (costs : Option (List ℕ)) (alphabet : List Instr) (limit n place : ℕ) (numbers : List ℕ) : Type 0 where
  pub start : Contains numbers 0
  pub ascending : ascends_from 0 numbers ≡ true
  pub light : (q : ℕ) → Contains numbers q → IsLight costs alphabet limit n q
  pub closed : (i q : ℕ) → i < place → IsBehind alphabet (get_or numbers i 0) q → IsLight costs alphabet limit n q → Contains numbers q
  pub fresh : (q i : ℕ) → Contains numbers q → place ≤ i → i < length numbers → q ≤ get_or numbers i 0 * length alphabet

pub number_in : (first count q : ℕ) → Contains (numbers_from first count) q → (first ≤ q) × (q < first + count)
number_in first count q c =
    let size = length-from first count in
    let low : c.0 < count = omega (arith, c.1, size) in
    let is : first + c.0 ≡ q = sym (get_or_from_slice_get (numbers_from first count) c.0 (first + c.0) q (numbers_at first count c.0 low)) ∙ c.2 in
    (omega (arith, is), omega (arith, is, low))

pub in_numbers : (first count q : ℕ) → first ≤ q → q < first + count → Contains (numbers_from first count) q
in_numbers first count q h k =
    let low : q - first < count = omega (arith, h, k) in
    let is : first + (q - first) ≡ q = omega (arith, h) in
    let size = length-from first count in
    (q - first, omega (arith, low, size), get_or_from_slice_get (numbers_from first count) (q - first) (first + (q - first)) q (numbers_at first count (q - first) low) ∙ is)

get_append : (xs ys : List ℕ) (i : ℕ) → i < length xs → get_or (xs ++ ys) i 0 ≡ get_or xs i 0
get_append xs ys i h = get_or_from_slice_get (xs ++ ys) i (get_or xs i 0) 0 (get_front xs ys i h ∙ slice_get-get_or xs i 0 h)

zero_weight : (costs : Option (List ℕ)) → weight_under costs [] ≡ 0
zero_weight None = refl
zero_weight (Some costs) = refl

no_word : (alphabet : List Instr) → slice_get (words alphabet 0) 0 ≡ Some []
unfolding words
no_word alphabet = refl

pub queue_begun : (costs : Option (List ℕ)) (alphabet : List Instr) (limit n : ℕ) → 0 < limit → 0 < n → Queue costs alphabet limit n 0 (0 ∷ [])
unfolding ascends_from
queue_begun costs alphabet limit n some long = record {
  start = (0, omega arith, refl);
  ascending = refl;
  light = λ q c.
      let none : length (sequences_below alphabet 0) ≡ 0 = ap (λ ws. length ws) (below_none alphabet) in
      let zero_is : length (sequences_below alphabet 0) + 0 ≡ q = (let z = only c.0 c.1 c.2 in omega (arith, none, z)) in
      let empty : slice_get (sequences_below alphabet n) q ≡ Some [] = subst (λ r. slice_get (sequences_below alphabet n) r ≡ Some []) zero_is (word_at alphabet 0 n 0 [] long (no_word alphabet)) in
      record { seq = []; at = empty; light = omega (arith, zero_weight costs, some) };
  closed = λ i q low. absurd (omega (arith, low));
  fresh = λ q i c h k. (let z = only c.0 c.1 c.2 in omega (arith, z));
}
  where
    only : {q : ℕ} (k : ℕ) → k < 1 → get_or (0 ∷ []) k q ≡ q → q ≡ 0
    only zero low e = sym e
    only (suc k) low e = absurd (omega (arith, low))

pub queue_next : (costs : Option (List ℕ)) (alphabet : List Instr) (limit n place : ℕ) (numbers new : List ℕ) (w : List Instr) → place < length numbers → Queue costs alphabet limit n place numbers
    → slice_get (sequences_below alphabet n) (get_or numbers place 0) ≡ Some w
    → new ≡ numbers ++ filter (is_light_at costs alphabet (get_or numbers place 0 * length alphabet + 1) (limit - weight_under costs w) (length (sequences_below alphabet n)))
    (numbers_from (get_or numbers place 0 * length alphabet + 1) (length alphabet))
    → Queue costs alphabet limit n (place + 1) new
queue_next costs alphabet limit n place numbers new w low queue at is = subst (Queue costs alphabet limit n (place + 1)) (sym is) (record {
  start = Contains-append_left numbers added 0 queue.start;
  ascending = ascends_append 0 begin numbers added (omega arith) queue.ascending before (ascends_filter keeps begin range (ascends_numbers begin (length alphabet)));
  light = λ q c. elim (Contains-append_cases numbers added q c) [
    | inl old ↦ queue.light q old
    | inr more ↦ tested_light costs alphabet limit n number w at here_light q (range_of q more).0 (filter_does keeps range q more)
  ];
  closed = λ i q h behind l.
      elim (cases_lt i place) [
        | inl less ↦ (
            let same : get_or (numbers ++ added) i 0 ≡ get_or numbers i 0 = get_append numbers added i (omega (arith, less, low)) in
            Contains-append_left numbers added q (queue.closed i q less (subst (λ m. IsBehind alphabet m q) same behind) l)
            )
        | inr more ↦ (
            let it : i ≡ place = omega (arith, h, more) in
            let same : get_or (numbers ++ added) i 0 ≡ number = ap (λ j. get_or (numbers ++ added) j 0) it ∙ get_append numbers added place low in
            let b : IsBehind alphabet number q = subst (λ m. IsBehind alphabet m q) same behind in
            Contains-append_right numbers added q (filter_has keeps range q (light_tested costs alphabet limit n number w at here_light q b l) (in_numbers begin (length alphabet) q b.from b.to))
            )
      ];
  fresh = λ q i c h k.
      let above : number < get_or (numbers ++ added) i 0 = later i (omega (arith, h)) k in
      let more : (number + 1) * length alphabet ≤ get_or (numbers ++ added) i 0 * length alphabet = mul-le-mul_right (length alphabet) (omega (arith, above)) in
      elim (Contains-append_cases numbers added q c) [
        | inl old ↦ (let most = queue.fresh q place old (omega arith) low in omega (arith, most, more))
        | inr new ↦ (let most = (range_of q new).1 in omega (arith, most, more))
      ];
})
  where
    number : ℕ
    number = get_or numbers place 0

    begin : ℕ
    begin = number * length alphabet + 1

    keeps : ℕ → Bool
    keeps = is_light_at costs alphabet begin (limit - weight_under costs w) (length (sequences_below alphabet n))

    range : List ℕ
    range = numbers_from begin (length alphabet)

    added : List ℕ
    added = filter keeps range

    here_light : weight_under costs w < limit
    here_light =
        let l = queue.light number (Contains-get_or numbers place 0 low) in
        let same : l.seq ≡ w = same_Some l.seq w (sym l.at ∙ at) in
        omega (arith, l.light, ap (weight_under costs) same)

    before : (q : ℕ) → Contains numbers q → q < begin
    before q c = (let most = queue.fresh q place c (omega arith) low in omega (arith, most))

    range_of : (q : ℕ) → Contains added q → (begin ≤ q) × (q < begin + length alphabet)
    range_of q c = number_in begin (length alphabet) q (filter_in keeps range q c)

    whole_ascends : ascends_from 0 (numbers ++ added) ≡ true
    whole_ascends = ascends_append 0 begin numbers added (omega arith) queue.ascending before (ascends_filter keeps begin range (ascends_numbers begin (length alphabet)))

    later : (i : ℕ) → place < i → i < length (numbers ++ added) → number < get_or (numbers ++ added) i 0
    later i h k =
        let rises = ascends_rises 0 (numbers ++ added) whole_ascends place i h k in
        omega (arith, rises, get_append numbers added place low)

-- the sequence of the number whose turn it is
module _ (costs : Option (List ℕ)) (alphabet ls : List Instr) (limit n place number : ℕ) (numbers : List ℕ) (low : place < length numbers) (is : number ≡ get_or numbers place number) (same : ls ≡ alphabet) (short : n ≤ 6)
    (queue : Queue costs alphabet limit n place numbers) (o : Option (List Instr)) (got : o ≡ slice_get (sequences_of ls) number) where
  its_light : IsLight costs alphabet limit n number
  its_light = queue.light number (place, low, sym is)

  its_option : o ≡ Some its_light.seq
  its_option = got ∙ ap (λ xs. slice_get (sequences_of xs) number) same ∙ ap (λ ws. slice_get ws number) (whole alphabet) ∙ below_longest alphabet n 6 number its_light.seq short its_light.at

  pub queue_there : o ≡ None → ⊥
  queue_there none = let no : None ≡ Some its_light.seq = sym none ∙ its_option in absurd (cc)

  pub queue_light : (w : List Instr) → o ≡ Some w → weight_under costs w < limit
  queue_light w e =
      let is_w : its_light.seq ≡ w = same_Some its_light.seq w (sym its_option ∙ e) in
      subst (λ (v : List Instr). weight_under costs v < limit) is_w its_light.light

  pub queue_small : length alphabet ≤ 1952 → n ≤ 5 → number < 2 ^ 50
  queue_small few five =
      let within = slice_get_within (sequences_below alphabet n) number its_light.seq its_light.at in
      let count = short_count alphabet n few five in
      let times : n * 1952 ^ 4 ≤ 5 * 1952 ^ 4 = mul-le-mul_right (1952 ^ 4) five in
      omega (arith, within, count, times)

  pub queue_step : (w : List Instr) (room count : ℕ) (new : List ℕ) → o ≡ Some w → room ≡ limit - weight_under costs w → count ≡ length (sequences_below alphabet n)
      → new ≡ numbers ++ filter (is_light_at costs alphabet (number * length alphabet + 1) room count) (numbers_from (number * length alphabet + 1) (length alphabet)) → Queue costs alphabet limit n (place + 1) new
  queue_step w room count new e f g h =
      let is_w : its_light.seq ≡ w = same_Some its_light.seq w (sym its_option ∙ e) in
      let here : number ≡ get_or numbers place 0 = is ∙ get_or_default numbers place number 0 low in
      let at : slice_get (sequences_below alphabet n) (get_or numbers place 0) ≡ Some w = ap (slice_get (sequences_below alphabet n)) (sym here) ∙ its_light.at ∙ ap (λ z. Some z) is_w in
      let one = subst (λ r. new ≡ numbers ++ filter (is_light_at costs alphabet (number * length alphabet + 1) r count) (numbers_from (number * length alphabet + 1) (length alphabet))) f h in
      let two = subst (λ m. new ≡ numbers ++ filter (is_light_at costs alphabet (number * length alphabet + 1) (limit - weight_under costs w) m) (numbers_from (number * length alphabet + 1) (length alphabet))) g one in
      queue_next costs alphabet limit n place numbers new w low queue at
      (subst (λ m. new ≡ numbers ++ filter (is_light_at costs alphabet (m * length alphabet + 1) (limit - weight_under costs w) (length (sequences_below alphabet n))) (numbers_from (m * length alphabet + 1) (length alphabet))) here two)

-- at the end each light sequence was found
pub queue_done : (costs : Option (List ℕ)) (alphabet : List Instr) (limit n place : ℕ) (numbers : List ℕ) → 0 < length alphabet → length numbers ≤ place → Queue costs alphabet limit n place numbers
    → AreLighter costs limit (sequences_below alphabet n) numbers
queue_done costs alphabet limit n place numbers some past queue = record {
  ascending = queue.ascending;
  within = λ q c. (let l = queue.light q c in slice_get_within (sequences_below alphabet n) q l.seq l.at);
  each = λ q seq at. (
    λ c.
        let l = queue.light q c in
        let same : l.seq ≡ seq = same_Some l.seq seq (sym l.at ∙ at) in
        lt-ltb (weight_under costs seq) limit (subst (λ (w : List Instr). weight_under costs w < limit) same l.light),
    λ light. found (suc q) q (omega arith) (record { seq = seq; at = at; light = ltb-true (weight_under costs seq) limit light }),
  );
}
  where
    found : (fuel q : ℕ) → q < fuel → IsLight costs alphabet limit n q → Contains numbers q
    found zero q h l = absurd (omega (arith, h))
    found (suc fuel) q h l = elim (first_or_longer alphabet n q l.seq some l.at) [
      | inl none ↦ subst (Contains numbers) (sym none) queue.start
      | inr longer ↦ (
          let m = longer.number in
          let product : m * 1 ≤ m * length alphabet = mul-le-mul_left m some in
          let weight : weight_under costs l.seq ≡ weight_under costs longer.front + cost_under costs longer.instr = ap (weight_under costs) longer.parts ∙ weight_push costs longer.front longer.instr in
          let lighter : weight_under costs longer.front < limit = omega (arith, l.light, weight) in
          let here = found fuel m (omega (arith, h, longer.is, product)) (record { seq = longer.front; at = longer.at; light = lighter }) in
          let low : longer.last < length alphabet = slice_get_within alphabet longer.last longer.instr longer.is_member in
          let number : get_or numbers here.0 0 ≡ m = get_or_default numbers here.0 0 m here.1 ∙ here.2 in
          let behind : IsBehind alphabet m q = record { from = omega (arith, longer.is); to = omega (arith, longer.is, low) } in
          queue.closed here.0 q (omega (arith, here.1, past)) (subst (λ k. IsBehind alphabet k q) (sym number) behind) l
          )
    ]

-- no more are found than there are
pub queue_few : (costs : Option (List ℕ)) (alphabet : List Instr) (limit n place : ℕ) (numbers : List ℕ) → Queue costs alphabet limit n place numbers
    → length numbers ≤ length (filter (is_lighter costs limit) (sequences_below alphabet n))
queue_few costs alphabet limit n place numbers queue =
    few_numbers (is_lighter costs limit) (sequences_below alphabet n) numbers queue.ascending
    (λ q c. let l = queue.light q c in (l.seq, l.at, lt-ltb (weight_under costs l.seq) limit l.light))

-- where the search ends early, the table has at most 128 sequences for each light one
pub few_enough : (costs : Option (List ℕ)) (alphabet : List Instr) (limit n place count most : ℕ) (numbers : List ℕ) → count ≡ length (sequences_below alphabet n) → most ≡ count / 128 → most < length numbers
    → Queue costs alphabet limit n place numbers → length (sequences_below alphabet n) ≤ 128 * length (filter (is_lighter costs limit) (sequences_below alphabet n))
few_enough costs alphabet limit n place count most numbers e d h queue = omega (arith, e, d, h, queue_few costs alphabet limit n place numbers queue)

all_pass : (p : List Instr → Bool) (seqs : List (List Instr)) → ((q : ℕ) (seq : List Instr) → slice_get seqs q ≡ Some seq → p seq ≡ true) → length (filter p seqs) ≡ length seqs
all_pass p [] h = refl
all_pass p (seq ∷ seqs) h = rw (h 0 seq refl) (ap suc (all_pass p seqs (λ q other at. h (suc q) other at)))

-- without costs all that are shorter than the limit are lighter
pub all_lighter : (costs : Option (List ℕ)) (alphabet : List Instr) (limit n : ℕ) → costs ≡ None → n ≤ limit → length (sequences_below alphabet n) ≤ 128 * length (filter (is_lighter costs limit) (sequences_below alphabet n))
all_lighter costs alphabet limit n none high =
    let light : length (filter (is_lighter None limit) (sequences_below alphabet n)) ≡ length (sequences_below alphabet n) =
    all_pass (is_lighter None limit) (sequences_below alphabet n) (λ q seq at. let l = located alphabet n q seq at in lt-ltb (length seq) limit (omega (arith, l.1, high))) in
    subst (λ c. length (sequences_below alphabet n) ≤ 128 * length (filter (is_lighter c limit) (sequences_below alphabet n))) (sym none) (omega (arith, light))

-- ---- the instructions appended to one sequence ----

range_more : (f : ℕ → Bool) (first place : ℕ) → filter f (numbers_from first (place + 1)) ≡ filter f (numbers_from first place) ++ cond (f (first + place)) ((first + place) ∷ []) []
unfolding numbers_from
range_more f first place = ap (filter f) (numbers_split first place 1) ∙ filter-append f (numbers_from first place) ((first + place) ∷ [])

pub none_tested : (f : ℕ → Bool) (first : ℕ) (numbers : List ℕ) → numbers ≡ numbers ++ filter f (numbers_from first 0)
unfolding numbers_from
none_tested f first numbers = sym (append-nil numbers)

-- one instruction tested more
pub pushed : (f : ℕ → Bool) (first place : ℕ) (numbers old new : List ℕ) → old ≡ numbers ++ filter f (numbers_from first place) → f (first + place) ≡ true → new ≡ old ++ (first + place) ∷ [] → new ≡ numbers ++ filter f (numbers_from first (place + 1))
pushed f first place numbers old new e h is = is ∙ ap (λ xs. xs ++ (first + place) ∷ []) e ∙ append_assoc numbers (filter f (numbers_from first place)) ((first + place) ∷ []) ∙ ap (λ xs. numbers ++ xs) (sym (range_more f first place ∙ ap (λ b. filter f (numbers_from first place) ++ cond b ((first + place) ∷ []) []) h))

pub passed : (f : ℕ → Bool) (first place : ℕ) (numbers old : List ℕ) → old ≡ numbers ++ filter f (numbers_from first place) → f (first + place) ≡ false → old ≡ numbers ++ filter f (numbers_from first (place + 1))
passed f first place numbers old e h = e ∙ ap (λ xs. numbers ++ xs) (sym (range_more f first place ∙ ap (λ b. filter f (numbers_from first place) ++ cond b ((first + place) ∷ []) []) h ∙ append-nil (filter f (numbers_from first place))))

-- what the test of an instruction says
pub tests_instr : (costs : Option (List ℕ)) (alphabet : List Instr) (first limit count place : ℕ) (x : Instr) → place < length alphabet → x ≡ get_or alphabet place x
    → is_light_at costs alphabet first limit count (first + place) ≡ (nat_lt (first + place) count && nat_lt (cost_under costs x) limit)
tests_instr costs alphabet first limit count place x low is =
    let there : first + place - first ≡ place = omega arith in
    let at : slice_get alphabet (first + place - first) ≡ Some x = ap (slice_get alphabet) there ∙ slice_get-get_or alphabet place x low ∙ ap (λ z. Some z) (sym is) in
    ap (λ o. nat_lt (first + place) count && is_light_instr costs limit o) at
