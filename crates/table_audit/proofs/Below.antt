-- Sequences below a side: by number, by weight, and how many numbers can have one.
use Rattle.std.proofs.Common.{◌≡◌, ℕ, suc, ◌+◌, ◌-◌, ◌*◌, ◌<◌, ◌≤◌, ◌⊎◌, ◌&&◌, inl, inr, Bool, true, false, List, [], ◌∷◌, ◌++◌, Option, Some, None, IfSome, Contains, cond, filter, length, nat_le, nat_lt, slice_get, sum_by, refl, sym, ◌∙◌, ap, subst, arith, le-leb, lt-ltb, length-append}
use Rattle.std.specs.Option.{option_and_then}
use Rattle.std.proofs.Math.Nat.{mul-le-mul_left}
use Rattle.std.proofs.lemmas.Bool.{and_parts, and_from, cases_lt, leb-true, ltb-true, lt-leb, le-ltb}
use Rattle.std.proofs.lemmas.List.{get_or_past}
use Rattle.std.proofs.lemmas.List.Sums.{sum_by-cons, sum_by_push}
use Rattle.std.proofs.lemmas.Option.{cond_some, option_and_then_some, same_Some}
use Rattle.thumb_instr.specs.declared.instr.Instr.{Instr}
use Rattle.thumb_instr.specs.Parts.{parts_of}
use Rattle.seq_enum.specs.Alphabet.{ascends_from, sequences}
use Rattle.seq_enum.specs.Costs.{AreCosts, mnemonic, cost_in, cost_under, weight_under}
use Rattle.rule_table.specs.Header.{Header}
use Rattle.rule_table.specs.Table.{Rule, Table}
use Rattle.table_audit.specs.Shorter.{alphabet_registers, sequences_below, weight_in, IsBelow, is_lighter, if_below, lighter_at, below_at, below}
use Rattle.table_audit.specs.Naming.{run_share, told_cost}
use Rattle.table_audit.proofs.Numbering.{below_from}
use Rattle.table_audit.proofs.Upcoming.{ascends_above}

-- ---- by number ----

pub below_found : (h : Header) (left side : List Instr) (q : ℕ) (seq : List Instr) → below_at h left side q ≡ Some seq → IsBelow h left side q seq
unfolding lighter_at
below_found h left side q seq e = option_and_then_some (if_below h.costs left side) (slice_get (sequences (alphabet_registers h left) h.pool) q) seq e (λ s at is.
    let kept = cond_some (nat_le (length s) (length left) && nat_lt (weight_in h s) (weight_in h side)) s seq is in
    let both = and_parts (nat_le (length s) (length left)) (nat_lt (weight_in h s) (weight_in h side)) kept.0 in
    record {
      at = at ∙ ap (λ z. Some z) kept.1;
      no_longer = subst (λ (w : List Instr). length w ≤ length left) kept.1 (leb-true (length s) (length left) both.0);
      lighter = subst (λ (w : List Instr). weight_in h w < weight_in h side) kept.1 (ltb-true (weight_in h s) (weight_in h side) both.1);
    })

pub below_is : (h : Header) (left side : List Instr) (q : ℕ) (seq : List Instr) → IsBelow h left side q seq → below_at h left side q ≡ Some seq
unfolding lighter_at
below_is h left side q seq b =
    let both = and_from (nat_le (length seq) (length left)) (nat_lt (weight_in h seq) (weight_in h side)) (le-leb (length seq) (length left) b.no_longer) (lt-ltb (weight_in h seq) (weight_in h side) b.lighter) in
    ap (option_and_then (if_below h.costs left side)) b.at ∙ ap (λ c. cond c (Some seq) None) both

-- the same, as a test of a number finds it: it is there, it isn't, or there is no such number
module _ (costs : Option (List ℕ)) (k : ℕ) (pool : List ℕ) (left side : List Instr) (q : ℕ) (o : Option (List Instr)) (is : o ≡ slice_get (sequences k pool) q) where
  pub test_kept : (seq : List Instr) → o ≡ Some seq → length seq ≤ length left → weight_under costs seq < weight_under costs side → Some seq ≡ lighter_at costs k pool left side q
  unfolding lighter_at
  test_kept seq e short light =
      let both = and_from (nat_le (length seq) (length left)) (nat_lt (weight_under costs seq) (weight_under costs side)) (le-leb (length seq) (length left) short) (lt-ltb (weight_under costs seq) (weight_under costs side) light) in
      sym (ap (option_and_then (if_below costs left side)) (sym is ∙ e) ∙ ap (λ c. cond c (Some seq) None) both)

  pub test_long : (seq : List Instr) → o ≡ Some seq → length left < length seq → None ≡ lighter_at costs k pool left side q
  unfolding lighter_at
  test_long seq e long = sym (ap (option_and_then (if_below costs left side)) (sym is ∙ e) ∙ ap (λ b. cond (b && nat_lt (weight_under costs seq) (weight_under costs side)) (Some seq) None) (lt-leb (length seq) (length left) long))

  pub test_heavy : (seq : List Instr) → o ≡ Some seq → length seq ≤ length left → weight_under costs side ≤ weight_under costs seq → None ≡ lighter_at costs k pool left side q
  unfolding lighter_at
  test_heavy seq e short heavy = sym (ap (option_and_then (if_below costs left side)) (sym is ∙ e) ∙ ap (λ b. cond (b && nat_lt (weight_under costs seq) (weight_under costs side)) (Some seq) None) (le-leb (length seq) (length left) short) ∙ ap (λ b. cond b (Some seq) None) (le-ltb (weight_under costs seq) (weight_under costs side) heavy))

  pub test_none : o ≡ None → None ≡ lighter_at costs k pool left side q
  unfolding lighter_at
  test_none e = sym (ap (option_and_then (if_below costs left side)) (sym is ∙ e))

-- ---- weights ----

some_cost : (costs : List ℕ) (i : Instr) → AreCosts costs → 1 ≤ cost_in costs i
some_cost costs i valid = elim (cases_lt (mnemonic (parts_of i).kind) (length costs)) [
  | inl low ↦ (valid.each (mnemonic (parts_of i).kind) 1 low).0
  | inr past ↦ (let is : cost_in costs i ≡ 1 = get_or_past costs (mnemonic (parts_of i).kind) 1 past in omega (arith, is))
]

-- a sequence weighs at least as much as it is long
pub length_within : (costs : Option (List ℕ)) (seq : List Instr) → IfSome costs AreCosts → length seq ≤ weight_under costs seq
length_within None seq valid = omega arith
length_within (Some costs) [] valid = omega arith
length_within (Some costs) (i ∷ is) valid = omega (arith, sum_by-cons (cost_in costs) i is, length_within (Some costs) is valid, some_cost costs i valid)

-- one instruction more
pub weight_push : (costs : Option (List ℕ)) (seq : List Instr) (x : Instr) → weight_under costs (seq ++ x ∷ []) ≡ weight_under costs seq + cost_under costs x
weight_push None seq x = length-append seq (x ∷ [])
weight_push (Some costs) seq x = sum_by_push (cost_in costs) seq x

-- nothing is below an empty side
pub none_below : (h : Header) (left side : List Instr) (q : ℕ) (seq : List Instr) → length side ≡ 0 → IsBelow h left side q seq → ⊥
none_below h left [] q seq none b = nothing h.costs b.lighter
  where
    nothing : (costs : Option (List ℕ)) → weight_under costs seq < weight_under costs [] → ⊥
    nothing None l = omega (arith, l)
    nothing (Some costs) l = omega (arith, l)
none_below h left (i ∷ is) q seq none b = omega (arith, none)

-- so either no sequence is below a side, or the side isn't empty
pub some_below : (h : Header) (left side : List Instr) → (length (below h left side) ≡ 0) ⊎ (0 < length side)
unfolding below
some_below h left (i ∷ is) = inr (omega arith)
some_below h left [] = inl (nothing_kept h.costs (sequences_below (alphabet_registers h left) h.pool (length left + 1)))
  where
    nothing_lighter : (costs : Option (List ℕ)) (seq : List Instr) → is_lighter costs (weight_under costs []) seq ≡ false
    nothing_lighter None seq = le-ltb (length seq) 0 (omega arith)
    nothing_lighter (Some costs) seq = le-ltb (weight_under (Some costs) seq) 0 (omega arith)

    nothing_kept : (costs : Option (List ℕ)) (seqs : List (List Instr)) → length (filter (is_lighter costs (weight_under costs [])) seqs) ≡ 0
    nothing_kept costs [] = refl
    nothing_kept costs (seq ∷ seqs) = ap (λ b. length (cond b (seq ∷ filter (is_lighter costs (weight_under costs [])) seqs) (filter (is_lighter costs (weight_under costs [])) seqs))) (nothing_lighter costs seq) ∙ nothing_kept costs seqs

-- ---- shares of ascending numbers ----

-- the element at a place passes a test, and a number's share is at most one share
pub record IsShare {X : Type 0} (f : ℕ → ℕ) (share : ℕ) (p : X → Bool) (xs : List X) (place q : ℕ) : Type 0 where
  pub element : X
  pub at : slice_get xs place ≡ Some element
  pub passes : p element ≡ true
  pub most : f q ≤ share

later : (x q : ℕ) (xs : List ℕ) → Contains xs q → Contains (x ∷ xs) q
later x q xs c = (suc c.0, omega (arith, c.1), c.2)

no_shares : (f : ℕ → ℕ) (numbers : List ℕ) → ((q : ℕ) → Contains numbers q → f q ≡ 0) → sum_by f numbers ≡ 0
no_shares f [] each = refl
no_shares f (q ∷ qs) each = omega (arith, sum_by-cons f q qs, each q (0, omega arith, refl), no_shares f qs (λ r c. each r (later q r qs c)))

-- of numbers in ascending order no more have a share than there are elements that pass
pub shares_within : {X : Type 0} (f : ℕ → ℕ) (share : ℕ) (p : X → Bool) (xs : List X) (low : ℕ) (numbers : List ℕ) → ascends_from low numbers ≡ true
    → ((q : ℕ) → Contains numbers q → (f q ≡ 0) ⊎ IsShare f share p xs (q - low) q) → sum_by f numbers ≤ length (filter p xs) * share
unfolding ascends_from
shares_within {X} f share p [] low numbers a each = omega (arith, no_shares f numbers zero_each)
  where
    zero_each : (q : ℕ) → Contains numbers q → f q ≡ 0
    zero_each q c = elim (each q c) [
      | inl none ↦ none
      | inr s ↦ absurd (let e = s.at in cc)
    ]
shares_within f share p (x ∷ xs) low [] a each = omega arith
shares_within {X} f share p (x ∷ xs) low (q ∷ qs) a each = elim (cases_lt low q) [
  | inl more ↦ (
      let rest = shares_within f share p xs (suc low) (q ∷ qs) (and_from (nat_le (suc low) q) (ascends_from (suc q) qs) (le-leb (suc low) q (omega (arith, more))) parts.1) (λ r c. onward r (omega (arith, ascends_above q (q ∷ qs) r (and_from (nat_le q q) (ascends_from (suc q) qs) (le-leb q q (omega arith)) parts.1) c, more)) (each r c)) in
      omega (arith, rest, behind (p x) refl)
      )
  | inr here ↦ (
      let same : q ≡ low = omega (arith, here, leb-true low q parts.0) in
      let asc : ascends_from (suc low) qs ≡ true = subst (λ n. ascends_from (suc n) qs ≡ true) same parts.1 in
      let rest = shares_within f share p xs (suc low) qs asc (λ r c. onward r (ascends_above (suc low) qs r asc c) (each r (later q r qs c))) in
      omega (arith, rest, sum_by-cons f q qs, first same (each q (0, omega arith, refl)) (p x) refl)
      )
]
  where
    parts : (nat_le low q ≡ true) × (ascends_from (suc q) qs ≡ true)
    parts = and_parts (nat_le low q) (ascends_from (suc q) qs) a

    onward : (r : ℕ) → suc low ≤ r → (f r ≡ 0) ⊎ IsShare f share p (x ∷ xs) (r - low) r → (f r ≡ 0) ⊎ IsShare f share p xs (r - suc low) r
    onward r h (inl none) = inl none
    onward r h (inr s) =
        let place : r - low ≡ suc (r - suc low) = omega (arith, h) in
        inr (record { element = s.element; at = ap (slice_get (x ∷ xs)) (sym place) ∙ s.at; passes = s.passes; most = s.most })

    behind : (b : Bool) → p x ≡ b → length (filter p xs) * share ≤ length (cond b (x ∷ filter p xs) (filter p xs)) * share
    behind true e = omega arith
    behind false e = omega arith

    first : q ≡ low → (f q ≡ 0) ⊎ IsShare f share p (x ∷ xs) (q - low) q → (b : Bool) → p x ≡ b → f q + length (filter p xs) * share ≤ length (cond b (x ∷ filter p xs) (filter p xs)) * share
    first same (inl none) true e = omega (arith, none)
    first same (inl none) false e = omega (arith, none)
    first same (inr s) true e = omega (arith, s.most)
    first same (inr s) false e =
        let place : q - low ≡ 0 = omega (arith, same) in
        let is : x ≡ s.element = same_Some x s.element (ap (slice_get (x ∷ xs)) (sym place) ∙ s.at) in
        let passes : p x ≡ true = ap p is ∙ s.passes in
        absurd (cc)

sum_ones : (numbers : List ℕ) → sum_by (λ q. 1) numbers ≡ length numbers
sum_ones [] = refl
sum_ones (q ∷ qs) = omega (arith, sum_by-cons (λ (r : ℕ). 1) q qs, sum_ones qs)

-- so there are no more numbers of elements that pass
pub few_numbers : {X : Type 0} (p : X → Bool) (xs : List X) (numbers : List ℕ) → ascends_from 0 numbers ≡ true
    → ((q : ℕ) → Contains numbers q → (x : X) × (slice_get xs q ≡ Some x) × (p x ≡ true)) → length numbers ≤ length (filter p xs)
few_numbers p xs numbers a each =
    let all = shares_within (λ q. 1) 1 p xs 0 numbers a (λ q c.
    let one = each q c in
    let place : q ≡ q - 0 = omega arith in
    inr (record { element = one.0; at = ap (slice_get xs) (sym place) ∙ one.1; passes = one.2; most = omega arith })) in
    omega (arith, all, sum_ones numbers)

-- ---- the runs for ascending numbers ----

-- a run of s instructions from each of u states is within the share of its number
pub run_within : (t : Table) (e : Rule) (number : ℕ) (seq : List Instr) (before after u s : ℕ) → below_at t.header e.left e.right number ≡ Some seq → u ≡ length t.states → s ≤ length e.left → after ≤ before + u * s
    → after ≤ before + told_cost t e number
run_within t e number seq before after u s at is short h =
    let share : told_cost t e number ≡ length t.states * length e.left = ap (run_share t e) at in
    let more : u * s ≤ u * length e.left = mul-le-mul_left u short in
    let same : u * length e.left ≡ length t.states * length e.left = ap (λ n. n * length e.left) is in
    omega (arith, h, share, more, same)

-- ascending numbers whose sequences are run where they are below the right side cost no more than running all sequences below it
pub told_most : (t : Table) (e : Rule) (numbers : List ℕ) → length e.left ≤ 5 → ascends_from 0 numbers ≡ true → sum_by (told_cost t e) numbers ≤ length (below t.header e.left e.right) * (length t.states * length e.left)
unfolding below
told_most t e numbers few a =
    shares_within (told_cost t e) (length t.states * length e.left) (is_lighter t.header.costs (weight_in t.header e.right)) (sequences_below k t.header.pool (length e.left + 1)) 0 numbers a
    (λ q c. share q (below_at t.header e.left e.right q) refl)
  where
    k : ℕ
    k = alphabet_registers t.header e.left

    share : (q : ℕ) (o : Option (List Instr)) → below_at t.header e.left e.right q ≡ o
        → (told_cost t e q ≡ 0) ⊎ IsShare (told_cost t e) (length t.states * length e.left) (is_lighter t.header.costs (weight_in t.header e.right)) (sequences_below k t.header.pool (length e.left + 1)) (q - 0) q
    share q None at = inl (ap (run_share t e) at)
    share q (Some seq) at =
        let b = below_found t.header e.left e.right q seq at in
        let place : q ≡ q - 0 = omega arith in
        let cost : told_cost t e q ≡ length t.states * length e.left = ap (run_share t e) at in
        inr (record {
          element = seq;
          at = ap (slice_get (sequences_below k t.header.pool (length e.left + 1))) (sym place) ∙ below_from k t.header.pool (length e.left + 1) q seq (omega (arith, few)) b.at (omega (arith, b.no_longer));
          passes = lt-ltb (weight_in t.header seq) (weight_in t.header e.right) b.lighter;
          most = omega (arith, cost);
        })
