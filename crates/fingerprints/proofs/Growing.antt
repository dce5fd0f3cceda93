-- Tables of outcomes that grow, and what agrees in them.
use Rattle.std.proofs.Common.{◌≡◌, ℕ, zero, suc, ◌+◌, ◌-◌, ◌*◌, ◌^◌, ◌<◌, ◌≤◌, inl, inr, Bool, true, false, List, [], ◌∷◌, ◌++◌, Some, None, Option, IsSome, IfSome, ◌↔◌, cond, length, min, slice_get, refl, sym, ◌∙◌, ap, subst, arith, add-one, append-nil, length-append, nat_lt}
use Rattle.std.specs.List.{flat_map}
use Rattle.std.proofs.lemmas.List.Concat.{flat_map-append}
use Rattle.std.proofs.lemmas.List.{length-map}
use Rattle.std.proofs.lemmas.Option.{slice_get_cases, slice_get_within}
use Rattle.thumb_instr.specs.declared.instr.Instr.{Instr}
use Rattle.thumb_model.specs.Effect.{AreOver}
use Rattle.window_exec.specs.declared.state.WState.{WState}
use Rattle.window_exec.specs.State.{values_of, Differ}
use Rattle.seq_enum.specs.Alphabet.{numbers_from, alphabet, words}
use Rattle.seq_enum.specs.Places.{sum_below}
use Rattle.seq_enum.proofs.Words.{length-words}
use Rattle.fingerprints.proofs.Members.{member}
use Rattle.fingerprints.specs.declared.outcome_columns.Columns.{Columns}
use Rattle.fingerprints.specs.OutcomeColumns.{extended, IsAfter, Holds}
use Rattle.fingerprints.specs.Looks.{IsLike, AreThose}
use Rattle.fingerprints.specs.Outcomes.{sequences_below, Extent, sequences_in, AreAgreeing, IsTable}
use Rattle.fingerprints.proofs.Holding.{holds_more}
use Rattle.common_lemmas.proofs.Lists.{get_front}
use Rattle.seq_enum.proofs.Weighing.{numbers_split}

-- ---- sequences by their lengths ----

pub below_none : (instrs : List Instr) → sequences_below instrs 0 ≡ []
unfolding sequences_below numbers_from
below_none instrs = refl

pub below_more : (instrs : List Instr) (n : ℕ) → sequences_below instrs (n + 1) ≡ sequences_below instrs n ++ words instrs n
unfolding sequences_below numbers_from
below_more instrs n =
    let none : 0 + n ≡ n = omega arith in
    ap (flat_map (words instrs)) (numbers_split 0 n 1 ∙ ap (λ m. numbers_from 0 n ++ m ∷ []) none) ∙ flat_map-append (words instrs) (numbers_from 0 n) (n ∷ []) ∙ ap (λ ws. sequences_below instrs n ++ ws) (append-nil (words instrs n))

words_more : (instrs : List Instr) (n : ℕ) → words instrs (n + 1) ≡ flat_map (extended instrs) (words instrs n)
unfolding words
words_more instrs n = ap (words instrs) (add-one n)

words_none : (instrs : List Instr) → words instrs 0 ≡ [] ∷ []
unfolding words
words_none instrs = refl

below_one : (instrs : List Instr) → sequences_below instrs 1 ≡ [] ∷ []
below_one instrs = below_more instrs 0 ∙ ap (λ ws. ws ++ words instrs 0) (below_none instrs) ∙ words_none instrs

-- the shorter ones come first
below_front : (instrs : List Instr) (m d q : ℕ) (seq : List Instr) → slice_get (sequences_below instrs m) q ≡ Some seq → slice_get (sequences_below instrs (m + d)) q ≡ Some seq
below_front instrs m zero q seq at = let e : m + 0 ≡ m = omega arith in rw e at
below_front instrs m (suc d) q seq at =
    let e : m + suc d ≡ m + d + 1 = omega arith in
    let before = below_front instrs m d q seq at in
    let low = slice_get_within (sequences_below instrs (m + d)) q seq before in
    rw e (ap (λ ws. slice_get ws q) (below_more instrs (m + d)) ∙ get_front (sequences_below instrs (m + d)) (words instrs (m + d)) q low ∙ before)

pub below_longest : (instrs : List Instr) (m n q : ℕ) (seq : List Instr) → m ≤ n → slice_get (sequences_below instrs m) q ≡ Some seq → slice_get (sequences_below instrs n) q ≡ Some seq
below_longest instrs m n q seq h at = let e : m + (n - m) ≡ n = omega arith in subst (λ j. slice_get (sequences_below instrs j) q ≡ Some seq) e (below_front instrs m (n - m) q seq at)

-- a sequence that the code copies
pub some_short : (o : Option (List Instr)) (xs : List Instr) → IsSome o ↔ (length xs ≤ 5) → IfSome o (λ s. s ≡ xs) → length xs ≤ 5 → o ≡ Some xs
some_short None xs valid value short = absurd (let h = valid.1 short in cc)
some_short (Some s) xs valid value short = ap (λ z. Some z) value

-- ---- the alphabet ----

over_from : (k : ℕ) (pool : List ℕ) (xs : List Instr) → k ≤ 8 → ((i : ℕ) (x : Instr) → slice_get xs i ≡ Some x → (j : ℕ) × (slice_get (alphabet k pool) j ≡ Some x)) → AreOver k xs
over_from k pool [] few each = tt
over_from k pool (x ∷ xs) few each =
    let at = each 0 x refl in
    let l = member k pool at.0 x few at.1 in
    (l.window, l.below, over_from k pool xs few (λ i. each (suc i)))

pub instrs_over : (k : ℕ) (pool : List ℕ) → k ≤ 4 → AreOver k (alphabet k pool)
instrs_over k pool few = over_from k pool (alphabet k pool) (omega arith) (λ i x at. (i, at))

-- ---- the table of the empty sequence ----

either : (b : Bool) (n : ℕ) → n ≡ cond b n n
either true n = refl
either false n = refl

pub begun : (k : ℕ) (pool : List ℕ) (instrs : List Instr) (start : WState) (none one : Columns) → 0 < k → k ≤ 4 → instrs ≡ alphabet k pool → 0 < length instrs → length instrs ≤ 1952 → length start.r ≡ 4
    → none.r0.items ≡ [] → none.r1.items ≡ [] → none.r2.items ≡ [] → none.r3.items ≡ [] → none.flags.items ≡ [] → IsAfter k start none one → IsTable k instrs start 0 0 one
begun k pool instrs start none one some few is instrs_some instrs_few four r0 r1 r2 r3 flags after =
    let empty : Holds k start [] none = record {
      r0 = ap length r0 ∙ either (nat_lt 0 k) 0;
      r1 = ap length r1 ∙ either (nat_lt 1 k) 0;
      r2 = ap length r2 ∙ either (nat_lt 2 k) 0;
      r3 = ap length r3 ∙ either (nat_lt 3 k) 0;
      flags = ap length flags;
      outcomes = λ i seq at. absurd (cc);
    } in
    record {
      some = some;
      few = few;
      some_instrs = instrs_some;
      few_instrs = instrs_few;
      over = subst (AreOver k) (sym is) (instrs_over k pool few);
      short = omega arith;
      before = sym (ap length (below_none instrs));
      holds = subst (λ ws. Holds k start ws one) (sym (below_one instrs)) (holds_more k start [] [] none one start empty after (λ x past low. refl) four refl);
    }

-- ---- longer ones ----

-- the loop's state: the outcomes up to a length, and where the longest begin
pub record IsGrown (k : ℕ) (instrs : List Instr) (start : WState) (longest first : ℕ) (columns : Columns) : Type 0 where
  pub before : first ≡ length (sequences_below instrs longest)
  pub holds : Holds k start (sequences_below instrs (longest + 1)) columns

pub grown_first : (k : ℕ) (instrs : List Instr) (start : WState) (longest first : ℕ) (c : Columns) → IsGrown k instrs start longest first c → first ≤ length c.flags.items
grown_first k instrs start longest first c h =
    let more = ap length (below_more instrs longest) in
    omega (arith, h.before, h.holds.flags, more, length-append (sequences_below instrs longest) (words instrs longest))

pub grown_count : (k : ℕ) (instrs : List Instr) (start : WState) (longest first : ℕ) (c : Columns) → IsGrown k instrs start longest first c
    → (length c.flags.items - first) * length instrs + length (sequences_below instrs (longest + 1)) ≡ length (sequences_below instrs (longest + 1 + 1))
grown_count k instrs start longest first c h =
    let one = ap length (below_more instrs longest) ∙ length-append (sequences_below instrs longest) (words instrs longest) in
    let two = ap length (below_more instrs (longest + 1)) ∙ length-append (sequences_below instrs (longest + 1)) (words instrs (longest + 1)) in
    let block : length c.flags.items - first ≡ length (words instrs longest) = omega (arith, h.before, h.holds.flags, one) in
    let pieces : length (words instrs (longest + 1)) ≡ length (words instrs longest) * length instrs =
    ap length (words_more instrs longest) ∙ all_extended instrs (words instrs longest) in
    ap (λ n. n * length instrs + length (sequences_below instrs (longest + 1))) block ∙ omega (arith, two, pieces)
  where
    all_extended : (instrs : List Instr) (ws : List (List Instr)) → length (flat_map (extended instrs) ws) ≡ length ws * length instrs
    all_extended instrs [] = omega arith
    all_extended instrs (w ∷ ws) =
        length-append (extended instrs w) (flat_map (extended instrs) ws) ∙ omega (arith, length-map instrs (λ x. w ++ x ∷ []), all_extended instrs ws)

pub grown_once : (k : ℕ) (instrs : List Instr) (start : WState) (longest first next : ℕ) (old new : Columns) → IsGrown k instrs start longest first old → next ≡ length old.flags.items
    → ((shorter longest : List (List Instr)) → length shorter ≡ first → Holds k start (shorter ++ longest) old → Holds k start (shorter ++ longest ++ flat_map (extended instrs) longest) new)
    → IsGrown k instrs start (longest + 1) next new
grown_once k instrs start longest first next old new h e push =
    let whole : Holds k start (sequences_below instrs longest ++ words instrs longest) old = subst (λ ws. Holds k start ws old) (below_more instrs longest) h.holds in
    let then = push (sequences_below instrs longest) (words instrs longest) (sym h.before) whole in
    let lists : sequences_below instrs longest ++ words instrs longest ++ flat_map (extended instrs) (words instrs longest) ≡ sequences_below instrs (longest + 1 + 1) =
    ap (λ ws. ws ++ flat_map (extended instrs) (words instrs longest)) (sym (below_more instrs longest)) ∙ ap (λ ws. sequences_below instrs (longest + 1) ++ ws) (sym (words_more instrs longest)) ∙ sym (below_more instrs (longest + 1)) in
    record { before = e ∙ h.holds.flags; holds = subst (λ ws. Holds k start ws new) lists then }

below_grows : (instrs : List Instr) (m d : ℕ) → length (sequences_below instrs m) ≤ length (sequences_below instrs (m + d))
below_grows instrs m zero = let e : m + 0 ≡ m = omega arith in rw e (omega arith)
below_grows instrs m (suc d) =
    let e : m + suc d ≡ m + d + 1 = omega arith in
    let one = ap length (below_more instrs (m + d)) ∙ length-append (sequences_below instrs (m + d)) (words instrs (m + d)) in
    rw e (omega (arith, one, below_grows instrs m d))

pub below_longer : (instrs : List Instr) (m n : ℕ) → m ≤ n → length (sequences_below instrs m) ≤ length (sequences_below instrs n)
below_longer instrs m n h = let e : m + (n - m) ≡ n = omega arith in subst (λ j. length (sequences_below instrs m) ≤ length (sequences_below instrs j)) e (below_grows instrs m (n - m))

length-below : (instrs : List Instr) (n : ℕ) → length (sequences_below instrs n) ≡ sum_below (λ m. length instrs ^ m) n
unfolding sum_below
length-below instrs zero = ap length (below_none instrs)
length-below instrs (suc n) =
    let one = ap length (below_more instrs n) ∙ length-append (sequences_below instrs n) (words instrs n) in
    ap (λ m. length (sequences_below instrs m)) (sym (add-one n)) ∙ one ∙ omega (arith, length-below instrs n, length-words instrs n)

pub count_is : (instrs : List Instr) (n m size count : ℕ) → size ≡ length instrs → m ≡ n → count ≡ sum_below (λ i. size ^ i) m → count ≡ length (sequences_below instrs n)
count_is instrs n m size count e f h = h ∙ ap (λ s. sum_below (λ i. s ^ i) m) e ∙ ap (λ j. sum_below (λ i. length instrs ^ i) j) f ∙ sym (length-below instrs n)

-- ---- what agrees ----

pub agreeing_are : (e : Extent) (columns : Columns) (end : WState) (mask limit least : ℕ) (numbers : List ℕ) → Holds e.registers e.start (sequences_in e) columns → least ≡ min limit (length columns.flags.items)
    → AreThose (IsLike columns e.start end mask) least numbers → AreAgreeing e (values_of end) mask limit numbers
agreeing_are e columns end mask limit least numbers h is those = record {
  ascending = those.ascending;
  agreeing = λ q. (
    λ there.
        let found = (those.such q).0 there in
        elim (slice_get_cases (sequences_in e) q).1 [
          | inl p ↦ (omega (arith, found.0, is), record { seq = p.0; at = p.2; same = subst (λ v. Differ v (values_of end) mask → ⊥) (h.outcomes q p.0 p.2) found.1 })
          | inr p ↦ absurd (omega (arith, found.0, is, h.flags, p.0))
        ],
    λ agree.
        let a = agree.1 in
        let low = slice_get_within (sequences_in e) q a.seq a.at in
        (those.such q).1 (omega (arith, agree.0, is, h.flags, low), subst (λ v. Differ v (values_of end) mask → ⊥) (sym (h.outcomes q a.seq a.at)) a.same),
  );
}
