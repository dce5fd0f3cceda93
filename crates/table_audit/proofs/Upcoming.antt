-- The binary search for a number among those named open, which are in ascending order, is right.
use Rattle.std.proofs.Common.{◌≡◌, ℕ, zero, suc, ◌+◌, ◌||◌, Contains, length, drop, get_or, slice_get, map, ◌<◌, ◌≤◌, ◌==◌, true, false, List, [], ◌∷◌, ◌++◌, Some, refl, sym, ◌∙◌, ap, subst, arith, nat_le, nat_lt}
use Rattle.std.specs.List.{AllWithin}
use Rattle.std.specs.List.Sorted.{IsNonDecreasingBy}
use Rattle.std.proofs.lemmas.Bool.{and_parts, and_from, leb-true, ltb-true, ltb-false, ne_eqb}
use Rattle.std.proofs.lemmas.Option.{same_Some}
use Rattle.seq_enum.specs.Alphabet.{ascends_from}
use Rattle.rule_table.specs.declared.table.Open as code
use Rattle.rule_table.specs.Views.{opened_of}
use Rattle.rule_table.specs.Table.{Opened, numbers_of}
use Rattle.table_audit.specs.Shorter.{is_named}
use Rattle.table_audit.specs.Naming.{is_number}
use Rattle.common_lemmas.proofs.Booleans.{or_false}
use Rattle.seq_enum.proofs.Ascending.{ascends_lower}

-- ascending numbers from `low` on don't contain a lesser number
pub named_high : (opens : List Opened) (low n : ℕ) → n < low → ascends_from low (numbers_of opens) ≡ true → is_named opens n ≡ false
unfolding ascends_from
named_high [] low n h a = refl
named_high (o ∷ opens) low n h a =
    let parts = and_parts (nat_le low o.number) (ascends_from (suc o.number) (numbers_of opens)) a in
    let least : low ≤ o.number = leb-true low o.number parts.0 in
    let other : (o.number == n) ≡ false = ne_eqb o.number n (λ e. omega (arith, e, least, h)) in
    rw other (named_high opens (suc o.number) n (omega arith) parts.1)

-- a number is named open just where the first named number that isn't below it equals it
pub named_at : (opens : List Opened) (low p n : ℕ) → ascends_from low (numbers_of opens) ≡ true
    → ((k : ℕ) (o : Opened) → k < p → slice_get opens k ≡ Some o → o.number < n) → ((k : ℕ) (o : Opened) → p ≤ k → slice_get opens k ≡ Some o → n ≤ o.number)
    → is_named opens n ≡ is_number (slice_get opens p) n
unfolding ascends_from
named_at [] low p n a before after = refl
named_at (o ∷ opens) low zero n a before after =
    let parts = and_parts (nat_le low o.number) (ascends_from (suc o.number) (numbers_of opens)) a in
    let past : n ≤ o.number = after 0 o (omega arith) refl in
    ap (λ b. (o.number == n) || b) (named_high opens (suc o.number) n (omega (arith, past)) parts.1) ∙ or_false (o.number == n)
named_at (o ∷ opens) low (suc p) n a before after =
    let parts = and_parts (nat_le low o.number) (ascends_from (suc o.number) (numbers_of opens)) a in
    let less : o.number < n = before 0 o (omega arith) refl in
    ap (λ b. b || is_named opens n) (ne_eqb o.number n (λ e. omega (arith, e, less)))
    ∙ named_at opens (suc o.number) p n parts.1 (λ k z h at. before (suc k) z (omega (arith, h)) at) (λ k z h at. after (suc k) z (omega (arith, h)) at)

-- each of the ascending numbers is at least the lowest
pub ascends_get : (low : ℕ) (xs : List ℕ) → ascends_from low xs ≡ true → (j : ℕ) → j < length xs → low ≤ get_or xs j 0
unfolding ascends_from
ascends_get low [] a j h = absurd (omega (arith, h))
ascends_get low (x ∷ xs) a zero h = let parts = and_parts (nat_le low x) (ascends_from (suc x) xs) a in leb-true low x parts.0
ascends_get low (x ∷ xs) a (suc j) h =
    let parts = and_parts (nat_le low x) (ascends_from (suc x) xs) a in
    let l : low ≤ x = leb-true low x parts.0 in
    let r : suc x ≤ get_or xs j 0 = ascends_get (suc x) xs parts.1 j (omega (arith, h)) in
    omega (arith, l, r)

pub ascends_rise : (low : ℕ) (xs : List ℕ) → ascends_from low xs ≡ true → (i j : ℕ) → i ≤ j → j < length xs → get_or xs i 0 ≤ get_or xs j 0
unfolding ascends_from
ascends_rise low [] a i j h l = absurd (omega (arith, l))
ascends_rise low (x ∷ xs) a zero zero h l = omega arith
ascends_rise low (x ∷ xs) a zero (suc j) h l =
    let parts = and_parts (nat_le low x) (ascends_from (suc x) xs) a in
    let r : suc x ≤ get_or xs j 0 = ascends_get (suc x) xs parts.1 j (omega (arith, l)) in
    omega (arith, r)
ascends_rise low (x ∷ xs) a (suc i) zero h l = absurd (omega (arith, h))
ascends_rise low (x ∷ xs) a (suc i) (suc j) h l =
    let parts = and_parts (nat_le low x) (ascends_from (suc x) xs) a in
    ascends_rise (suc x) xs parts.1 i j (omega (arith, h)) (omega (arith, l))

-- a later one is above an earlier one
pub ascends_rises : (low : ℕ) (xs : List ℕ) → ascends_from low xs ≡ true → (i j : ℕ) → i < j → j < length xs → get_or xs i 0 < get_or xs j 0
unfolding ascends_from
ascends_rises low [] a i j h l = absurd (omega (arith, l))
ascends_rises low (x ∷ xs) a i zero h l = absurd (omega (arith, h))
ascends_rises low (x ∷ xs) a zero (suc j) h l =
    let parts = and_parts (nat_le low x) (ascends_from (suc x) xs) a in
    let r : suc x ≤ get_or xs j 0 = ascends_get (suc x) xs parts.1 j (omega (arith, l)) in
    omega (arith, r)
ascends_rises low (x ∷ xs) a (suc i) (suc j) h l =
    let parts = and_parts (nat_le low x) (ascends_from (suc x) xs) a in
    ascends_rises (suc x) xs parts.1 i j (omega (arith, h)) (omega (arith, l))

-- each is at least the lowest, and those behind one are above it
pub ascends_above : (low : ℕ) (xs : List ℕ) (q : ℕ) → ascends_from low xs ≡ true → Contains xs q → low ≤ q
unfolding ascends_from
ascends_above low xs q a c = above low xs a c.0 c.1 c.2
  where
    above : (low : ℕ) (xs : List ℕ) → ascends_from low xs ≡ true → (k : ℕ) → k < length xs → get_or xs k q ≡ q → low ≤ q
    above low [] a k h e = absurd (omega (arith, h))
    above low (x ∷ xs) a zero h e = (let l = leb-true low x (and_parts (nat_le low x) (ascends_from (suc x) xs) a).0 in omega (arith, l, e))
    above low (x ∷ xs) a (suc k) h e =
        let parts = and_parts (nat_le low x) (ascends_from (suc x) xs) a in
        let l = leb-true low x parts.0 in
        let r = above (suc x) xs parts.1 k (omega (arith, h)) e in
        omega (arith, l, r)

pub ascends_drop : (low : ℕ) (xs : List ℕ) (i : ℕ) → i < length xs → ascends_from low xs ≡ true → ascends_from (suc (get_or xs i 0)) (drop (i + 1) xs) ≡ true
unfolding ascends_from
ascends_drop low [] i h a = absurd (omega (arith, h))
ascends_drop low (x ∷ xs) zero h a = (and_parts (nat_le low x) (ascends_from (suc x) xs) a).1
ascends_drop low (x ∷ xs) (suc i) h a =
    let next : suc (i + 1) ≡ suc i + 1 = omega arith in
    subst (λ n. ascends_from (suc (get_or xs i 0)) (drop n (x ∷ xs)) ≡ true) next (ascends_drop (suc x) xs i (omega (arith, h)) (and_parts (nat_le low x) (ascends_from (suc x) xs) a).1)

-- ascending numbers from `high` on, appended to ascending numbers below `high`, are ascending
pub ascends_append : (low high : ℕ) (xs ys : List ℕ) → low ≤ high → ascends_from low xs ≡ true → ((q : ℕ) → Contains xs q → q < high) → ascends_from high ys ≡ true → ascends_from low (xs ++ ys) ≡ true
unfolding ascends_from
ascends_append low high [] ys h a below b = ascends_lower low high ys h b
ascends_append low high (x ∷ xs) ys h a below b =
    let parts = and_parts (nat_le low x) (ascends_from (suc x) xs) a in
    let here : x < high = below x (0, omega arith, refl) in
    and_from (nat_le low x) (ascends_from (suc x) (xs ++ ys)) parts.0 (ascends_append (suc x) high xs ys (omega (arith, here)) parts.1 (λ q c. below q (suc c.0, omega (arith, c.1), c.2)) b)

-- ---- the numbers as the code has them ----

number_at : (es : List code.Open) (i : ℕ) (d : code.Open) → i < length es → get_or (numbers_of (map opened_of es)) i 0 ≡ (get_or es i d).number
number_at [] i d h = absurd (omega (arith, h))
number_at (e ∷ es) zero d h = refl
number_at (e ∷ es) (suc i) d h = number_at es i d (omega (arith, h))

length_numbers : (es : List code.Open) → length (numbers_of (map opened_of es)) ≡ length es
length_numbers [] = refl
length_numbers (e ∷ es) = ap suc (length_numbers es)

pub rising : (es : List code.Open) → ascends_from 0 (numbers_of (map opened_of es)) ≡ true → IsNonDecreasingBy (λ e. e.number) es
rising es a i j d h l =
    let size = length_numbers es in
    let r = ascends_rise 0 (numbers_of (map opened_of es)) a i j h (omega (arith, l, size)) in
    omega (arith, r, number_at es i d (omega (arith, h, l)), number_at es j d l)

code_at : (es : List code.Open) (k : ℕ) (o : Opened) → slice_get (map opened_of es) k ≡ Some o → (e : code.Open) × (k < length es) × (get_or es k e ≡ e) × (opened_of e ≡ o)
code_at [] k o at = absurd (cc)
code_at (e ∷ es) zero o at = (e, omega arith, refl, same_Some (opened_of e) o at)
code_at (e ∷ es) (suc k) o at = let r = code_at es k o at in (r.0, (let l = r.1 in omega (arith, l)), r.2, r.3)

pub named_in_code : (es : List code.Open) (i n : ℕ) → ascends_from 0 (numbers_of (map opened_of es)) ≡ true → AllWithin (λ e. nat_lt e.number n ≡ true) es 0 i → AllWithin (λ e. nat_lt e.number n ≡ false) es i (length es) → is_named (map opened_of es) n ≡ is_number (slice_get (map opened_of es) i) n
named_in_code es i n a before after =
    named_at (map opened_of es) 0 i n a
    (λ k o h at.
    let c = code_at es k o at in
    let less : c.0.number < n = ltb-true c.0.number n (subst (λ (e : code.Open). nat_lt e.number n ≡ true) c.2 (before k c.0 (omega arith) h)) in
    subst (λ (z : Opened). z.number < n) c.3 less)
    (λ k o h at.
    let c = code_at es k o at in
    let past : n ≤ c.0.number = ltb-false c.0.number n (subst (λ (e : code.Open). nat_lt e.number n ≡ false) c.2 (after k c.0 h c.1)) in
    subst (λ (z : Opened). n ≤ z.number) c.3 past)

pub number_here : (es : List code.Open) (i n : ℕ) (d e : code.Open) → i < length es → e ≡ get_or es i d → is_number (slice_get (map opened_of es) i) n ≡ (e.number == n)
number_here [] i n d e h is = absurd (omega (arith, h))
number_here (x ∷ es) zero n d e h is = ap (λ (z : code.Open). z.number == n) (sym is)
number_here (x ∷ es) (suc i) n d e h is = number_here es i n d e (omega (arith, h)) is

pub number_past : (es : List code.Open) (i n : ℕ) → length es ≤ i → is_number (slice_get (map opened_of es) i) n ≡ false
number_past [] i n h = refl
number_past (x ∷ es) zero n h = absurd (omega (arith, h))
number_past (x ∷ es) (suc i) n h = number_past es i n (omega (arith, h))
