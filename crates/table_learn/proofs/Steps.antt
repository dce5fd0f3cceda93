-- The invariant of the search for a right side (`IsSearching`) is preserved candidate by candidate, and gives the entry at the end.
use Rattle.std.proofs.Common.{◌≡◌, ℕ, zero, suc, ◌<◌, ◌≤◌, ◌⊎◌, ◌==◌, inl, inr, true, false, List, [], ◌∷◌, ◌++◌, Some, All, Contains, filter, length, map, slice_get, take, refl, sym, ◌∙◌, ap, subst, arith, eq-eqb, append_assoc, append-nil, nat_le, nat_lt}
use Rattle.std.specs.Option.{is_some}
use Rattle.std.specs.List.{AllWithin, insert}
use Rattle.std.proofs.Math.Seq.{take-append_seam}
use Rattle.std.proofs.lemmas.Bool.{cases_Bool, cases_lt, or_cases, or_left, or_right, and_parts, le-leb, le-ltb, lt-ltb}
use Rattle.std.proofs.lemmas.List.{take-append-le}
use Rattle.std.proofs.lemmas.List.Elements.{All-nil, All-push, Contains-append_left, Contains-push, Contains-push_cases, Contains-append_cases}
use Rattle.std.proofs.lemmas.Option.{slice_get_within}
use Rattle.thumb_instr.specs.declared.instr.Instr.{Instr}
use Rattle.seq_enum.specs.Alphabet.{ascends_from}
use Rattle.window_exec.specs.State.{Seen, Tells}
use Rattle.lrat_check.specs.Text.{IsLine}
use Rattle.bit_blast.specs.Exactness.{IsMask}
use Rattle.rule_table.specs.declared.table.Open as code
use Rattle.rule_table.specs.Views.{opened_of}
use Rattle.rule_table.specs.Table.{Opened, Rule, numbers_of, IsState}
use Rattle.table_audit.specs.Shorter.{named_count, alphabet_registers, IsBelow, weight_in, is_named, values_in}
use Rattle.table_audit.proofs.Below.{below_is}
use Rattle.seq_enum.proofs.Shared.{over_sequences}
use Rattle.table_audit.proofs.Fitting.{ordered_of}
use Rattle.table_learn.specs.Learnt.{Settings, Window, TellsFirst, IsSpentSearch, IsProvedBySolver, learnt_from}
use Rattle.table_learn.specs.Given.{IsWindow}
use Rattle.table_learn.specs.Tellings.{told, tells_apart}
use Rattle.table_learn.specs.Fitness.{IsFit}
use Rattle.table_learn.specs.Orders.{AreInOrder, weight_or_none}
use Rattle.table_learn.specs.Searching.{formula_for, weight_against, AreCandidates, IsOpenNumber, IsSearching, put_in, is_below}
use Rattle.table_learn.proofs.Below.{one_below, some_below, below_left}
use Rattle.table_learn.proofs.Sorting.{order_new, order_behind}
use Rattle.table_learn.proofs.Registers.{more_registers}
use Rattle.table_learn.proofs.Wider.{over_wider}
use Rattle.table_learn.proofs.Telling.{told_more, told_last, untold, untold_before, apart_tells}
use Rattle.table_learn.proofs.Fit.{ascends-filter, filter_at, named-filter}
use Rattle.fingerprints.proofs.Members.{at_cons as head_or}

-- ---- lists ----

pub push_cases : {X : Type 0} (xs : List X) (x : X) (i : ℕ) (s : X) → slice_get (xs ++ x ∷ []) i ≡ Some s → (slice_get xs i ≡ Some s) ⊎ ((i ≡ length xs) × (x ≡ s))
push_cases [] x zero s h = let e : x ≡ s = cc in inr (refl, e)
push_cases [] x (suc i) s h = absurd (cc)
push_cases (y ∷ ys) x zero s h = inl h
push_cases (y ∷ ys) x (suc i) s h = elim (push_cases ys x i s h) [ inl k ↦ inl k | inr k ↦ inr (ap suc k.0, k.1) ]

-- ---- one more open number ----

-- an open number inserted at the index that separates the lower numbers from the others
pub put_in_place : (name : code.Open) (opens : List code.Open) (place : ℕ) → place ≤ length opens → AllWithin (λ e. nat_lt e.number name.number ≡ true) opens 0 place → AllWithin (λ e. nat_lt e.number name.number ≡ false) opens place (length opens)
    → map opened_of (insert opens place name) ≡ put_in (opened_of name) (map opened_of opens)
put_in_place name [] zero h before after = refl
put_in_place name [] (suc place) h before after = absurd (omega (arith, h))
put_in_place name (x ∷ opens) zero h before after = let behind : nat_lt x.number name.number ≡ false = after 0 x (omega arith) (omega arith) in rw behind refl
put_in_place name (x ∷ opens) (suc place) h before after =
    let first : nat_lt x.number name.number ≡ true = before 0 x (omega arith) (omega arith) in
    let rest = put_in_place name opens place (omega (arith, h)) (λ k d low high. before (suc k) d (omega arith) (omega (arith, high))) (λ k d low high. after (suc k) d (omega (arith, low)) (omega (arith, high))) in
    rw first (ap (λ (os : List Opened). opened_of x ∷ os) rest)

named_other : (o : Opened) (opens : List Opened) (q : ℕ) → is_named opens q ≡ true → is_named (put_in o opens) q ≡ true
named_other o [] q h = absurd (cc)
named_other o (x ∷ opens) q h = elim (cases_Bool (nat_lt x.number o.number)) [
  | inl before ↦ rw before (elim (or_cases (x.number == q) (is_named opens q) h) [
    | inl here ↦ or_left (x.number == q) (is_named (put_in o opens) q) here
    | inr later ↦ or_right (x.number == q) (is_named (put_in o opens) q) (named_other o opens q later)
  ])
  | inr behind ↦ rw behind (or_right (o.number == q) (is_named (x ∷ opens) q) h)
]

named_itself : (o : Opened) (opens : List Opened) (q : ℕ) → o.number ≡ q → is_named (put_in o opens) q ≡ true
named_itself o [] q e = or_left (o.number == q) false (eq-eqb o.number q e)
named_itself o (x ∷ opens) q e = elim (cases_Bool (nat_lt x.number o.number)) [
  | inl before ↦ rw before (or_right (x.number == q) (is_named (put_in o opens) q) (named_itself o opens q e))
  | inr behind ↦ rw behind (or_left (o.number == q) (is_named (x ∷ opens) q) (eq-eqb o.number q e))
]

put_in_at : (o : Opened) (opens : List Opened) (i : ℕ) (z : Opened) → slice_get (put_in o opens) i ≡ Some z → (o ≡ z) ⊎ ((j : ℕ) × (slice_get opens j ≡ Some z))
put_in_at o [] i z h = elim (head_or o [] i z h) [ inl same ↦ inl same | inr later ↦ absurd (cc (later.1)) ]
put_in_at o (x ∷ opens) i z h = elim (cases_Bool (nat_lt x.number o.number)) [
  | inl before ↦ elim (head_or x (put_in o opens) i z (rw before at h)) [
    | inl same ↦ inr (0, ap (λ y. Some y) same)
    | inr later ↦ elim (put_in_at o opens later.0 z later.1) [ inl same ↦ inl same | inr old ↦ inr (suc old.0, old.1) ]
  ]
  | inr behind ↦ head_or o (x ∷ opens) i z (rw behind at h)
]

ascends-put_in : (low : ℕ) (o : Opened) (opens : List Opened) → low ≤ o.number → ((i : ℕ) (z : Opened) → slice_get opens i ≡ Some z → z.number ≡ o.number → ⊥) → ascends_from low (numbers_of opens) ≡ true → ascends_from low (numbers_of (put_in o opens)) ≡ true
unfolding ascends_from
ascends-put_in low o [] least new a = rw (le-leb low o.number least) refl
ascends-put_in low o (x ∷ opens) least new a =
    let parts = and_parts (nat_le low x.number) (ascends_from (suc x.number) (numbers_of opens)) a in
    elim (cases_lt x.number o.number) [
      | inl before ↦ rw (lt-ltb x.number o.number before) (rw parts.0 (ascends-put_in (suc x.number) o opens before (λ i z at. new (suc i) z at) parts.1))
      | inr behind ↦ (
          let other = new 0 x refl in
          let above : suc o.number ≤ x.number = omega (arith, behind, other) in
          rw (le-ltb x.number o.number behind) (rw (le-leb low o.number least) (rw (le-leb (suc o.number) x.number above) parts.1))
          )
    ]

-- ---- the steps ----

module _ (s : Settings) (w : Window) (old : List Seen) where
  pub search_begins : (candidates : List ℕ) → AreInOrder (weight_against s w) candidates → IsSearching s w old old [] [] candidates
  unfolding ascends_from
  search_begins candidates ordered = record {
    growth = record { more = []; grown = sym (append-nil old); valid = All-nil IsState };
    settles = λ q seq c at. absurd (omega (arith, c.1));
    names = λ i o at. absurd (cc);
    ascending = refl;
    ordered = ordered;
    earned = λ i x from at. let within : i < length old = slice_get_within old i x at in absurd (omega (arith, from, within));
  }

  -- the next candidate moves to those that were tried
  moved : (passed rest : List ℕ) (n : ℕ) → AreInOrder (weight_against s w) (passed ++ n ∷ rest) → AreInOrder (weight_against s w) ((passed ++ n ∷ []) ++ rest)
  moved passed rest n o = subst (AreInOrder (weight_against s w)) (sym (append_assoc passed (n ∷ []) rest)) o

  passed_more : (opens : List Opened) (passed : List ℕ) (n i : ℕ) (o : Opened) → Contains passed o.number × IsOpenNumber s w old o → Contains (passed ++ n ∷ []) o.number × IsOpenNumber s w old o
  passed_more opens passed n i o name = (Contains-append_left passed (n ∷ []) o.number name.0, name.1)

  -- a listed state already distinguishes the candidate
  pub search_passes : (states : List Seen) (opens : List Opened) (passed rest : List ℕ) (n : ℕ) (seq : List Instr) → IsSearching s w old states opens passed (n ∷ rest) → IsBelow s w.seq w.seq n seq → told states w.seq seq w.mask ≡ true
      → IsSearching s w old states opens (passed ++ n ∷ []) rest
  search_passes states opens passed rest n seq g at t = record {
    growth = g.growth;
    settles = λ q r c here. elim (Contains-push_cases passed n q c) [
      | inl k ↦ g.settles q r k here
      | inr same ↦ (
          let e : seq ≡ r = one_below s w.seq w.seq w.seq n seq r at (subst (λ j. IsBelow s w.seq w.seq j r) (sym same) here) in
          inr (subst (λ z. told states w.seq z w.mask ≡ true) e t)
          )
    ];
    names = λ i o here. passed_more opens passed n i o (g.names i o here);
    ascending = g.ascending;
    ordered = moved passed rest n g.ordered;
    earned = g.earned;
  }

  first_more : (states : List Seen) (x : Seen) (i : ℕ) (y : Seen) → slice_get states i ≡ Some y → TellsFirst s (take i states) y w → TellsFirst s (take i (states ++ x ∷ [])) y w
  first_more states x i y at g =
      let within : i < length states = slice_get_within states i y at in
      subst (λ before. TellsFirst s before y w) (sym (take-append-le i states (x ∷ []) (omega (arith, within)))) g

  -- a state was found that distinguishes it
  pub search_finds : (states : List Seen) (opens : List Opened) (passed rest : List ℕ) (n : ℕ) (seq : List Instr) (x : Seen) → IsMask w.mask → IsState x → IsSearching s w old states opens passed (n ∷ rest)
      → IsBelow s w.seq w.seq n seq → told states w.seq seq w.mask ≡ false → tells_apart w.seq seq w.mask x ≡ true → IsSearching s w old (states ++ x ∷ []) opens (passed ++ n ∷ []) rest
  search_finds states opens passed rest n seq x m v g at t f =
      record {
        growth = record {
          more = g.growth.more ++ x ∷ [];
          grown = ap (λ ys. ys ++ x ∷ []) g.growth.grown ∙ append_assoc old g.growth.more (x ∷ []);
          valid = All-push IsState g.growth.more x g.growth.valid v;
        };
        settles = λ q r c here. elim (Contains-push_cases passed n q c) [
          | inl k ↦ elim (g.settles q r k here) [
            | inl named ↦ inl named
            | inr does ↦ inr (told_more states (x ∷ []) w.seq r w.mask does)
          ]
          | inr same ↦ (
              let e : seq ≡ r = one_below s w.seq w.seq w.seq n seq r at (subst (λ j. IsBelow s w.seq w.seq j r) (sym same) here) in
              inr (told_last states x w.seq r w.mask (subst (λ z. tells_apart w.seq z w.mask x ≡ true) e f))
              )
        ];
        names = λ i o here. passed_more opens passed n i o (g.names i o here);
        ascending = g.ascending;
        ordered = moved passed rest n g.ordered;
        earned = λ i z from here. elim (push_cases states x i z here) [
          | inl k ↦ first_more states x i z k (g.earned i z from k)
          | inr k ↦ record {
            number = n;
            other = seq;
            below = at;
            tells = subst (λ y. Tells (values_in y) w.seq seq w.mask) k.1 (apart_tells w.seq seq w.mask x f);
            first = untold (take i (states ++ x ∷ [])) w.seq seq w.mask m (subst (λ before. told before w.seq seq w.mask ≡ false) (sym (ap (λ j. take j (states ++ x ∷ [])) k.0 ∙ take-append_seam states (x ∷ []))) t);
          }
        ];
      }

  -- it stays open
  pub search_spends : (states : List Seen) (opens : List Opened) (passed rest : List ℕ) (n : ℕ) (seq : List Instr) (o : Opened) → IsSearching s w old states opens passed (n ∷ rest) → IsBelow s w.seq w.seq n seq
      → told states w.seq seq w.mask ≡ false → o.number ≡ n → IsSpentSearch s.budget (formula_for s w seq) o.log → All IsLine o.log → IsSearching s w old states (put_in o opens) (passed ++ n ∷ []) rest
  search_spends states opens passed rest n seq o g at t e log lines = record {
    growth = g.growth;
    settles = λ q r c here. elim (Contains-push_cases passed n q c) [
      | inl k ↦ elim (g.settles q r k here) [
        | inl named ↦ inl (named_other o opens q named)
        | inr does ↦ inr does
      ]
      | inr same ↦ inl (named_itself o opens q (e ∙ same))
    ];
    names = λ i z here. elim (put_in_at o opens i z here) [
      | inl same ↦ subst (λ (y : Opened). Contains (passed ++ n ∷ []) y.number × IsOpenNumber s w old y) same (
        subst (λ j. Contains (passed ++ n ∷ []) j) (sym e) (Contains-push passed n),
        record {
          seq = seq;
          below = subst (λ j. IsBelow s w.seq w.seq j seq) (sym e) at;
          untold = untold_before old g.growth.more w.seq seq w.mask (subst (λ ys. told ys w.seq seq w.mask ≡ false) g.growth.grown t);
          log = log;
          lines = lines;
        },
      )
      | inr k ↦ passed_more opens passed n k.0 z (g.names k.0 z k.1)
    ];
    ascending = ascends-put_in 0 o opens (omega arith) (λ i z there same. order_new (weight_against s w) n passed rest g.ordered (subst (λ j. Contains passed j) (same ∙ e) (g.names i z there).0)) g.ascending;
    ordered = moved passed rest n g.ordered;
    earned = g.earned;
  }

  -- what is settled so far, also for sequences that aren't candidates
  settled : (states : List Seen) (opens : List Opened) (passed rest candidates : List ℕ) → IsSearching s w old states opens passed rest → AreCandidates s old w candidates → candidates ≡ passed ++ rest
      → (q : ℕ) (r : List Instr) → (Contains rest q → ⊥) → IsBelow s w.seq w.seq q r → (is_named opens q ≡ true) ⊎ (told states w.seq r w.mask ≡ true)
  settled states opens passed rest candidates g are e q r never here = elim (are.others q r here) [
    | inl c ↦ elim (Contains-append_cases passed rest q (subst (λ ns. Contains ns q) e c)) [
      | inl k ↦ g.settles q r k here
      | inr k ↦ absurd (never k)
    ]
    | inr does ↦ inr (subst (λ ys. told ys w.seq r w.mask ≡ true) (sym g.growth.grown) (told_more old g.growth.more w.seq r w.mask does))
  ]

-- the candidate is the right side
pub search_proves : (s : Settings) (e : Rule) (old states : List Seen) (opens : List Opened) (passed rest candidates : List ℕ) (n : ℕ) → IsWindow s (learnt_from e) → IsMask e.mask → IsSearching s (learnt_from e) old states opens passed (n ∷ rest)
    → AreCandidates s old (learnt_from e) candidates → candidates ≡ passed ++ n ∷ rest → IsBelow s e.left e.left n e.right → e.opens ≡ filter (is_below s e.left e.right) opens
    → IsProvedBySolver s e → All IsLine e.proof → IsFit s states old e
search_proves s e old states opens passed rest candidates n window mask g are split lower o proved lines =
    let weight = weight_against s (learnt_from e) in
    let mine : weight n ≡ weight_in s e.right = ap (weight_or_none s.costs) lower.at in
    record {
      window = window;
      mask = mask;
      right = over_sequences (alphabet_registers s e.left) s.pool n e.right lower.at;
      keeps = inr (n, lower);
      proved = proved;
      lines = lines;
      settles = λ q r below.
          let other : weight q ≡ weight_in s r = ap (weight_or_none s.costs) below.at in
          let never : Contains (n ∷ rest) q → ⊥ = λ c. (let heavier = order_behind weight n q passed rest g.ordered c in let less = below.lighter in omega (arith, heavier, mine, other, less)) in
          elim (settled s (learnt_from e) old states opens passed (n ∷ rest) candidates g are split q r never (below_left s e.left e.right q n r lower below)) [
            | inl named ↦ inl (subst (λ z. is_named z q ≡ true) (sym o) (named-filter (is_below s e.left e.right) opens q (λ z same. ap is_some (below_is s e.left e.right z.number r (subst (λ j. IsBelow s e.left e.right j r) (sym same) below))) named))
            | inr does ↦ inr does
          ];
      names = λ i z here.
          let kept = filter_at (is_below s e.left e.right) opens i z (subst (λ zs. slice_get zs i ≡ Some z) o here) in
          let name = (g.names kept.1.0 z kept.1.1).1 in
          let found = some_below s e.left e.right z.number kept.0 in
          let same : found.0 ≡ name.seq = one_below s e.left e.right e.left z.number found.0 name.seq found.1 name.below in
          record { seq = name.seq; below = subst (λ y. IsBelow s e.left e.right z.number y) same found.1; untold = name.untold; log = name.log; lines = name.lines };
      ascending = subst (λ zs. ascends_from 0 (numbers_of zs) ≡ true) (sym o) (ascends-filter (is_below s e.left e.right) 0 opens g.ascending);
    }

-- no candidate is left
pub search_ends : (s : Settings) (e : Rule) (old states : List Seen) (opens : List Opened) (passed candidates : List ℕ) → IsWindow s (learnt_from e) → IsMask e.mask → IsSearching s (learnt_from e) old states opens passed []
    → AreCandidates s old (learnt_from e) candidates → candidates ≡ passed ++ [] → e.right ≡ e.left → e.opens ≡ opens → IsProvedBySolver s e → All IsLine e.proof → IsFit s states old e
search_ends s e old states opens passed candidates window mask g are split r o proved lines = record {
  window = window;
  mask = mask;
  right = rw r (over_wider (named_count e.left) (alphabet_registers s e.left) s.pool e.left (more_registers s e.left (ordered_of e.left window.canonical).few) window.over);
  keeps = inl r;
  proved = proved;
  lines = lines;
  settles = λ q seq below.
      elim (settled s (learnt_from e) old states opens passed [] candidates g are split q seq (λ c. omega (arith, c.1)) (subst (λ z. IsBelow s e.left z q seq) r below)) [
        | inl named ↦ inl (subst (λ z. is_named z q ≡ true) (sym o) named)
        | inr does ↦ inr does
      ];
  names = λ i z here.
      let name = (g.names i z (subst (λ zs. slice_get zs i ≡ Some z) o here)).1 in
      record { seq = name.seq; below = subst (λ y. IsBelow s e.left y z.number name.seq) (sym r) name.below; untold = name.untold; log = name.log; lines = name.lines };
  ascending = subst (λ zs. ascends_from 0 (numbers_of zs) ≡ true) (sym o) g.ascending;
}
