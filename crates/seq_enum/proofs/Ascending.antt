-- Consecutive numbers, with and without one of them.
use Rattle.std.proofs.Common.{◌≡◌, ℕ, zero, suc, ◌+◌, ◌-◌, ◌<◌, ◌≤◌, ◌==◌, ◌⊎◌, inl, inr, not, filter, List, [], ◌∷◌, ◌++◌, length, refl, sym, ◌∙◌, ap, arith, Option, Some, None, slice_get, length-append, true, false, Bool, cond, nat_le, leb, eq-eqb, leb-true, le-leb}
use Rattle.std.specs.Option.{option_map}
use Rattle.std.proofs.lemmas.Bool.{and_parts, ne_eqb}
use Rattle.std.proofs.lemmas.Bool.Decides.{eqb_tells, leb_tells}
use Rattle.std.proofs.lemmas.Option.{slice_get_past, same_Some}
use Rattle.seq_enum.specs.Alphabet.{numbers_from, ascends_from, IsPlace}
use Rattle.seq_enum.specs.Places.{place_of}
use Rattle.seq_enum.proofs.Numbered.{numbers_at, number_here, number_past, get_back}
use Rattle.common_lemmas.proofs.Lists.{get_front}
use Rattle.seq_enum.proofs.CostLines.{length-from}

-- the first k numbers, and the same without one
abbrev pub firsts : ℕ → List ℕ
firsts k = numbers_from 0 k

abbrev pub firsts_but : ℕ → ℕ → List ℕ
firsts_but k d = filter (λ n. not (n == d)) (firsts k)

-- a number's place among consecutive ones
pub place_in_range : (first count x : ℕ) → first ≤ x → x < first + count → place_of x (numbers_from first count) ≡ Some (x - first)
unfolding numbers_from place_of
place_in_range first zero x low high = absurd (omega arith)
place_in_range first (suc count) x low high =
    elim (eqb_tells first x) [
      | inl e ↦ rw e.0 (ap Some (omega (arith, e.1)))
      | inr h ↦
          let above : suc first ≤ x = omega (arith, h.1) in
          let below : x < suc first + count = omega arith in
          let one_more : x - suc first + 1 ≡ x - first = omega arith in
          rw h.0 (ap (option_map (λ i. i + 1)) (place_in_range (suc first) count x above below) ∙ ap Some one_more)
    ]

pub place_past_range : (first count x : ℕ) → first + count ≤ x → place_of x (numbers_from first count) ≡ None
unfolding numbers_from place_of
place_past_range first zero x h = refl
place_past_range first (suc count) x h =
    let ne : (first ≡ x → ⊥) = λ e. omega arith in
    rw (ne_eqb first x ne) (ap (option_map (λ i. i + 1)) (place_past_range (suc first) count x (omega arith)))

pub place_in_registers : (k x : ℕ) → x < k → place_of x (firsts k) ≡ Some x
place_in_registers k x h = place_in_range 0 k x (omega arith) (omega arith) ∙ ap Some (omega arith)

pub place_past_registers : (k x : ℕ) → k ≤ x → place_of x (firsts k) ≡ None
place_past_registers k x h = place_past_range 0 k x (omega arith)

-- nothing is left out of numbers above d
no_more : (first count d : ℕ) → d < first → filter (λ n. not (n == d)) (numbers_from first count) ≡ numbers_from first count
unfolding numbers_from
no_more first zero d h = refl
no_more first (suc count) d h =
    let ne : (first ≡ d → ⊥) = λ e. omega arith in
    rw (ne_eqb first d ne) (ap (λ ns. first ∷ ns) (no_more (suc first) count d (omega arith)))

-- consecutive numbers without d are those below it, and those above it
pub without : (first below above d : ℕ) → d ≡ first + below → filter (λ n. not (n == d)) (numbers_from first (below + suc above))
    ≡ numbers_from first below ++ numbers_from (suc d) above
unfolding numbers_from
without first zero above d e =
    let start : zero + suc above ≡ suc above = omega arith in
    let same : (first == d) ≡ true = eq-eqb first d (omega arith) in
    let next : suc first ≡ suc d = omega arith in
    rw start (rw same (no_more (suc first) above d (omega arith) ∙ ap (λ n. numbers_from n above) next))
without first (suc below) above d e =
    let start : suc below + suc above ≡ suc (below + suc above) = omega arith in
    let ne : (first ≡ d → ⊥) = λ q. omega arith in
    rw start (rw (ne_eqb first d ne) (ap (λ ns. first ∷ ns) (without (suc first) below above d (omega arith))))

pub others_is : (k d : ℕ) → d < k → firsts_but k d ≡ numbers_from 0 d ++ numbers_from (suc d) (k - suc d)
others_is k d h =
    let is : k ≡ d + suc (k - suc d) = omega arith in
    ap (λ n. firsts_but n d) is ∙ without 0 d (k - suc d) d (omega arith)

pub length-others : (k d : ℕ) → d < k → length (firsts_but k d) ≡ k - 1
length-others k d h = ap length (others_is k d h)
    ∙ omega (arith, length-append (numbers_from 0 d) (numbers_from (suc d) (k - suc d)), length-from 0 d, length-from (suc d) (k - suc d))

pub first_others : (k : ℕ) → length (firsts_but k 0) ≡ k - 1
unfolding numbers_from
first_others zero = refl
first_others (suc k) = length-others (suc k) 0 (omega arith)

pub others_below : (k d i : ℕ) → d < k → i < d → slice_get (firsts_but k d) i ≡ Some i
others_below k d i h low =
    ap (λ ns. slice_get ns i) (others_is k d h)
    ∙ get_front (numbers_from 0 d) _ i (omega (arith, length-from 0 d)) ∙ numbers_at 0 d i low ∙ ap Some (omega arith)

pub others_above : (k d i : ℕ) → d < k → d ≤ i → i + 1 < k → slice_get (firsts_but k d) i ≡ Some (i + 1)
others_above k d i h low high =
    let size : length (numbers_from 0 d) ≡ d = length-from 0 d in
    let past : length (numbers_from 0 d) ≤ i = omega arith in
    let back : i - length (numbers_from 0 d) < k - suc d = omega arith in
    let is : suc d + (i - length (numbers_from 0 d)) ≡ i + 1 = omega arith in
    ap (λ ns. slice_get ns i) (others_is k d h)
    ∙ get_back (numbers_from 0 d) (numbers_from (suc d) (k - suc d)) i past
    ∙ numbers_at (suc d) (k - suc d) (i - length (numbers_from 0 d)) back
    ∙ ap Some is

pub others_past : (k d i : ℕ) → d < k → k ≤ i + 1 → slice_get (firsts_but k d) i ≡ None
others_past k d i h past = slice_get_past (firsts_but k d) i (omega (arith, length-others k d h))

pub ascends_lower : (low m : ℕ) (xs : List ℕ) → low ≤ m → ascends_from m xs ≡ true → ascends_from low xs ≡ true
unfolding ascends_from
ascends_lower low m [] h up = refl
ascends_lower low m (x ∷ xs) h up =
    let parts = and_parts (nat_le m x) (ascends_from (suc x) xs) up in
    let first : low ≤ x = omega (arith, leb-true m x parts.0) in
    rw (le-leb low x first) parts.1

pub ascends_numbers : (first count : ℕ) → ascends_from first (numbers_from first count) ≡ true
unfolding ascends_from numbers_from
ascends_numbers first zero = refl
ascends_numbers first (suc count) = rw (le-leb first first (omega arith)) (ascends_numbers (suc first) count)

pub ascends_filter : (p : ℕ → Bool) (low : ℕ) (xs : List ℕ) → ascends_from low xs ≡ true → ascends_from low (filter p xs) ≡ true
unfolding ascends_from
ascends_filter p low [] up = refl
ascends_filter p low (x ∷ xs) up =
    let parts = and_parts (nat_le low x) (ascends_from (suc x) xs) up in
    let rest : ascends_from (suc x) (filter p xs) ≡ true = ascends_filter p (suc x) xs parts.1 in
    let lower : ascends_from low (filter p xs) ≡ true =
    ascends_lower low (suc x) (filter p xs) (omega (arith, leb-true low x parts.0)) rest in
    elim (p x) as (λ b. ascends_from low (cond b (x ∷ filter p xs) (filter p xs)) ≡ true) [ true ↦ rw parts.0 rest | false ↦ lower ]

pub ascends_least : (low : ℕ) (xs : List ℕ) → ascends_from low xs ≡ true → (i x : ℕ) → slice_get xs i ≡ Some x → low ≤ x
unfolding ascends_from
ascends_least low [] up i x e = cc
ascends_least low (y ∷ xs) up zero x e =
    let parts = and_parts (nat_le low y) (ascends_from (suc y) xs) up in
    omega (arith, leb-true low y parts.0, same_Some y x e)
ascends_least low (y ∷ xs) up (suc i) x e =
    let parts = and_parts (nat_le low y) (ascends_from (suc y) xs) up in
    omega (arith, leb-true low y parts.0, ascends_least (suc y) xs parts.1 i x e)

-- in an ascending list each number has one place
pub place_found : (low : ℕ) (xs : List ℕ) → ascends_from low xs ≡ true → (i x : ℕ) → slice_get xs i ≡ Some x → place_of x xs ≡ Some i
unfolding ascends_from place_of
place_found low [] up i x e = cc
place_found low (y ∷ xs) up zero x e = rw (eq-eqb y x (same_Some y x e)) refl
place_found low (y ∷ xs) up (suc i) x e =
    let parts = and_parts (nat_le low y) (ascends_from (suc y) xs) up in
    let above : y < x = ascends_least (suc y) xs parts.1 i x e in
    let ne : (y ≡ x → ⊥) = λ q. omega arith in
    rw (ne_eqb y x ne) (ap (option_map (λ k. k + 1)) (place_found (suc y) xs parts.1 i x e) ∙ ap Some (omega arith))

pub place_stands : (xs : List ℕ) (i x : ℕ) → place_of x xs ≡ Some i → slice_get xs i ≡ Some x
unfolding place_of
place_stands [] i x e = cc
place_stands (y ∷ xs) i x e =
    elim (eqb_tells y x) [
      | inl h ↦ let at : Some 0 ≡ Some i = rw h.0 at e in rw (← same_Some 0 i at) (ap Some h.1)
      | inr h ↦
          let at : option_map (λ k. k + 1) (place_of x xs) ≡ Some i = rw h.0 at e in
          later (place_of x xs) (λ k is. place_stands xs k x is) at
    ]
  where
    later : (o : Option ℕ) → ((k : ℕ) → o ≡ Some k → slice_get xs k ≡ Some x) → option_map (λ k. k + 1) o ≡ Some i → slice_get (y ∷ xs) i ≡ Some x
    later None at_xs at = cc
    later (Some k) at_xs at =
        let next : suc k ≡ i = omega (arith, same_Some (k + 1) i at) in
        rw (← next) (at_xs k refl)

pub IsPlace-ascending : (low : ℕ) (xs : List ℕ) (x : ℕ) → ascends_from low xs ≡ true → IsPlace (place_of x xs) xs x
IsPlace-ascending low xs x up = record { stands = λ i e. place_stands xs i x e; found = λ i e. place_found low xs up i x e }

pub place_filter_none : (p : ℕ → Bool) (x : ℕ) (xs : List ℕ) → place_of x xs ≡ None → place_of x (filter p xs) ≡ None
unfolding place_of
place_filter_none p x [] e = refl
place_filter_none p x (y ∷ xs) e =
    elim (eqb_tells y x) [
      | inl h ↦ let at : Some 0 ≡ None = rw h.0 at e in cc
      | inr h ↦
          let at : option_map (λ k. k + 1) (place_of x xs) ≡ None = rw h.0 at e in
          let rest : place_of x (filter p xs) ≡ None = place_filter_none p x xs (unmapped (place_of x xs) at) in
          elim (p y) as (λ b. place_of x (cond b (y ∷ filter p xs) (filter p xs)) ≡ None) [
            | true ↦ rw h.0 (ap (option_map (λ k. k + 1)) rest)
            | false ↦ rest
          ]
    ]
  where
    unmapped : (o : Option ℕ) → option_map (λ k. k + 1) o ≡ None → o ≡ None
    unmapped None at = refl
    unmapped (Some k) at = cc

-- what the filter drops has no place
pub place_dropped : (p : ℕ → Bool) (x : ℕ) → p x ≡ false → (xs : List ℕ) → place_of x (filter p xs) ≡ None
unfolding place_of
place_dropped p x out [] = refl
place_dropped p x out (y ∷ xs) =
    let rest : place_of x (filter p xs) ≡ None = place_dropped p x out xs in
    elim (eqb_tells y x) [
      | inl h ↦ rw h.1 (rw out rest)
      | inr h ↦
          elim (p y) as (λ b. place_of x (cond b (y ∷ filter p xs) (filter p xs)) ≡ None) [
            | true ↦ rw h.0 (ap (option_map (λ k. k + 1)) rest)
            | false ↦ rest
          ]
    ]

pub ascends_others : (k d : ℕ) → ascends_from 0 (firsts_but k d) ≡ true
ascends_others k d = ascends_filter (λ n. not (n == d)) 0 (firsts k) (ascends_numbers 0 k)

place_below : (k d x : ℕ) → d < k → x < d → place_of x (firsts_but k d) ≡ Some x
place_below k d x h low = place_found 0 (firsts_but k d) (ascends_others k d) x x (others_below k d x h low)

-- nothing is left out of numbers below d
no_less : (first count d : ℕ) → first + count ≤ d → filter (λ n. not (n == d)) (numbers_from first count) ≡ numbers_from first count
unfolding numbers_from
no_less first zero d h = refl
no_less first (suc count) d h =
    let ne : (first ≡ d → ⊥) = λ e. omega arith in
    rw (ne_eqb first d ne) (ap (λ ns. first ∷ ns) (no_less (suc first) count d (omega arith)))

pub place_below_others : (k d x : ℕ) → x < k → x < d → place_of x (firsts_but k d) ≡ Some x
place_below_others k d x within low =
    elim (le_or_lt k d) [
      | inl h ↦ ap (place_of x) (no_less 0 k d (omega arith)) ∙ place_in_registers k x within
      | inr h ↦ place_below k d x h low
    ]
  where
    le_or_lt : (a b : ℕ) → (a ≤ b) ⊎ (b < a)
    le_or_lt a b = elim (leb_tells a b) [ inl h ↦ inl h.1 | inr h ↦ inr (omega (arith, h.1)) ]

pub place_above_others : (k d x : ℕ) → d < x → x < k → place_of x (firsts_but k d) ≡ Some (x - 1)
place_above_others k d x low high =
    let is : x - 1 + 1 ≡ x = omega arith in
    place_found 0 (firsts_but k d) (ascends_others k d) (x - 1) x (others_above k d (x - 1) (omega arith) (omega arith) (omega arith) ∙ ap Some is)

pub place_not_others : (k d : ℕ) → place_of d (firsts_but k d) ≡ None
place_not_others k d = place_dropped (λ n. not (n == d)) d (ap not (eq-eqb d d refl)) (firsts k)

pub place_past_others : (k d x : ℕ) → k ≤ x → place_of x (firsts_but k d) ≡ None
place_past_others k d x h = place_filter_none (λ n. not (n == d)) x (firsts k) (place_past_registers k x h)

-- the place of a number among the first k
IsPlace-first : (k x : ℕ) → IsPlace (place_of x (firsts k)) (firsts k) x
IsPlace-first k x = IsPlace-ascending 0 (firsts k) x (ascends_numbers 0 k)

pub IsPlace-first-in : (k x i : ℕ) → x < k → i ≡ x → IsPlace (Some i) (firsts k) x
IsPlace-first-in k x i h e = rw (e, ← place_in_registers k x h) (IsPlace-first k x)

pub IsPlace-first-past : (k x : ℕ) → k ≤ x → IsPlace None (firsts k) x
IsPlace-first-past k x h = rw (← place_past_registers k x h) (IsPlace-first k x)

pub ruleset places_of_firsts = (IsPlace-first-in, IsPlace-first-past)

-- and among the first k without one
IsPlace-other : (k d x : ℕ) → IsPlace (place_of x (firsts_but k d)) (firsts_but k d) x
IsPlace-other k d x = IsPlace-ascending 0 (firsts_but k d) x (ascends_others k d)

pub IsPlace-other-low : (k d x i : ℕ) → x < k → x < d → i ≡ x → IsPlace (Some i) (firsts_but k d) x
IsPlace-other-low k d x i low before e = rw (e, ← place_below_others k d x low before) (IsPlace-other k d x)

pub IsPlace-other-high : (k d x i : ℕ) → x < k → d < x → i ≡ x - 1 → IsPlace (Some i) (firsts_but k d) x
IsPlace-other-high k d x i low behind e = rw (e, ← place_above_others k d x behind low) (IsPlace-other k d x)

pub IsPlace-other-same : (k d x : ℕ) → x ≡ d → IsPlace None (firsts_but k d) x
IsPlace-other-same k d x e = rw (← ap (λ n. place_of n (firsts_but k d)) e ∙ place_not_others k d) (IsPlace-other k d x)

pub IsPlace-other-past : (k d x : ℕ) → k ≤ x → IsPlace None (firsts_but k d) x
IsPlace-other-past k d x past = rw (← place_past_others k d x past) (IsPlace-other k d x)

pub ruleset places_of_others = (IsPlace-other-low, IsPlace-other-high, IsPlace-other-same, IsPlace-other-past)

-- the number at a place among the first k without one
pub other_before : (k d i : ℕ) → i < d → slice_get (firsts_but k d) i ≡ slice_get (firsts k) i
other_before k d i low = elim (leb_tells k d) [
  | inl h ↦ ap (λ ns. slice_get ns i) (no_less 0 k d (omega (arith, h.1)))
  | inr h ↦ others_below k d i h.1 low ∙ sym (number_here k i i (omega (arith, h.1)) refl)
]

pub other_behind : (k d i : ℕ) → d ≤ i → slice_get (firsts_but k d) i ≡ slice_get (firsts k) (i + 1)
other_behind k d i past = elim (leb_tells k (i + 1)) [
  | inl h ↦ gone (leb_tells k d) h.1 ∙ sym (number_past k (i + 1) h.1)
  | inr h ↦ others_above k d i (omega (arith, h.1)) past h.1 ∙ sym (number_here k (i + 1) (i + 1) h.1 refl)
]
  where
    gone : ((leb k d ≡ true) × (k ≤ d)) ⊎ ((leb k d ≡ false) × (d < k)) → k ≤ i + 1 → slice_get (firsts_but k d) i ≡ None
    gone (inl g) h = ap (λ ns. slice_get ns i) (no_less 0 k d (omega (arith, g.1))) ∙ number_past k i (omega (arith, g.1))
    gone (inr g) h = others_past k d i g.1 h

pub ruleset others_at = (other_before, other_behind)
