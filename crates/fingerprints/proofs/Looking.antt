-- Scans of columns: blocks that are skipped or searched, and filters, keep just the wanted numbers.
use Rattle.std.proofs.Common.{◌≡◌, ℕ, zero, suc, ◌+◌, ◌<◌, ◌≤◌, ◌==◌, ◌&&◌, ◌||◌, not, inl, inr, Bool, true, false, List, [], ◌∷◌, ◌++◌, Contains, Some, cond, filter, length, slice_index, get_or, refl, sym, ◌∙◌, ap, subst, arith, eq-eqb, eqb-true}
use Rattle.std.proofs.lemmas.Bool.{cases_Bool, lt-ltb, false≢true, not-true, not-false}
use Rattle.std.proofs.lemmas.List.{get_or_default}
use Rattle.std.proofs.lemmas.List.Elements.{filter-append, filter_passes}
use Rattle.std.proofs.lemmas.Option.{get_or_from_slice_get}
use Rattle.thumb_instr.specs.Items.{has, is_in_masks}
use Rattle.window_exec.specs.declared.state.WState.{WState}
use Rattle.window_exec.specs.State.{values_of}
use Rattle.window_exec.proofs.Differences.{differs_at, differs_anywhere, differs_is}
use Rattle.seq_enum.specs.Alphabet.{numbers_from, ascends_from}
use Rattle.seq_enum.proofs.Numbered.{numbers_at}
use Rattle.fingerprints.specs.declared.outcome_columns.Columns.{Columns}
use Rattle.fingerprints.specs.OutcomeColumns.{column_of, outcome_at, AreFull}
use Rattle.fingerprints.specs.Looks.{flags_differ, keeps_word, IsLike, AreAmong, AreThose}
use Rattle.seq_enum.proofs.Ascending.{ascends_numbers, ascends_filter}
use Rattle.seq_enum.proofs.CostLines.{length-from}
use Rattle.seq_enum.proofs.Weighing.{numbers_split}

-- ---- filters ----

pub numbers_none : numbers_from 0 0 ≡ []
unfolding numbers_from
numbers_none = refl

-- one number more
pub numbers_more : (p : ℕ → Bool) (n : ℕ) → filter p (numbers_from 0 (n + 1)) ≡ filter p (numbers_from 0 n) ++ cond (p n) (n ∷ []) []
unfolding numbers_from
numbers_more p n =
    let none : 0 + n ≡ n = omega arith in
    ap (filter p) (numbers_split 0 n 1 ∙ ap (λ m. numbers_from 0 n ++ m ∷ []) none) ∙ filter-append p (numbers_from 0 n) (n ∷ [])

pub kept_more : (p : ℕ → Bool) (n : ℕ) (old new : List ℕ) → old ≡ filter p (numbers_from 0 n) → p n ≡ true → new ≡ old ++ n ∷ [] → new ≡ filter p (numbers_from 0 (n + 1))
kept_more p n old new e h f = f ∙ ap (λ xs. xs ++ n ∷ []) e ∙ ap (λ b. filter p (numbers_from 0 n) ++ cond b (n ∷ []) []) (sym h) ∙ sym (numbers_more p n)

append_none : (xs : List ℕ) → xs ++ [] ≡ xs
append_none [] = refl
append_none (x ∷ xs) = ap (λ ys. x ∷ ys) (append_none xs)

pub kept_less : (p : ℕ → Bool) (n : ℕ) (old : List ℕ) → old ≡ filter p (numbers_from 0 n) → p n ≡ false → old ≡ filter p (numbers_from 0 (n + 1))
kept_less p n old e h = e ∙ sym (append_none (filter p (numbers_from 0 n))) ∙ ap (λ b. filter p (numbers_from 0 n) ++ cond b (n ∷ []) []) (sym h) ∙ sym (numbers_more p n)

-- numbers in a row of which none is kept
pub kept_none : (p : ℕ → Bool) (n count : ℕ) → ((k : ℕ) → n ≤ k → k < n + count → p k ≡ false) → filter p (numbers_from 0 (n + count)) ≡ filter p (numbers_from 0 n)
kept_none p n zero h = let none : n + 0 ≡ n = omega arith in rw none refl
kept_none p n (suc count) h =
    let one : n + suc count ≡ (n + count) + 1 = omega arith in
    let last : p (n + count) ≡ false = h (n + count) (omega arith) (omega arith) in
    rw one (sym (kept_less p (n + count) (filter p (numbers_from 0 (n + count))) refl last) ∙ kept_none p n count (λ k low high. h k low (omega (arith, high))))

pub filter_has : (p : ℕ → Bool) (xs : List ℕ) (q : ℕ) → p q ≡ true → Contains xs q → Contains (filter p xs) q
filter_has p xs q h c = found xs c.0 c.1 c.2
  where
    found : (xs : List ℕ) (k : ℕ) → k < length xs → get_or xs k q ≡ q → Contains (filter p xs) q
    found [] k low e = absurd (omega (arith, low))
    found (x ∷ xs) zero low e =
        let same : x ≡ q = e in
        let does : p x ≡ true = ap p same ∙ h in
        rw does (0, omega arith, same)
    found (x ∷ xs) (suc k) low e =
        let r = found xs k (omega (arith, low)) e in
        elim (p x) as (λ b. Contains (cond b (x ∷ filter p xs) (filter p xs)) q) [
          | true ↦ (suc r.0, omega (arith, r.1), r.2)
          | false ↦ r
        ]

-- an element of the rest is an element of the list
behind : (q x : ℕ) (xs : List ℕ) → Contains xs q → Contains (x ∷ xs) q
behind q x xs r = (suc r.0, omega (arith, r.1), r.2)

at_first : (q x : ℕ) (xs kept : List ℕ) → ((k : ℕ) → k < length kept → get_or kept k q ≡ q → Contains xs q) → (k : ℕ) → k < length (x ∷ kept) → get_or (x ∷ kept) k q ≡ q → Contains (x ∷ xs) q
at_first q x xs kept rest zero l f = (0, omega arith, f)
at_first q x xs kept rest (suc k) l f = behind q x xs (rest k (omega (arith, l)) f)

kept_in : (p : ℕ → Bool) (xs : List ℕ) (q k : ℕ) → k < length (filter p xs) → get_or (filter p xs) k q ≡ q → Contains xs q
kept_in p [] q k low e = absurd (omega (arith, low))
kept_in p (x ∷ xs) q k low e = elim (p x) as (λ b. (k : ℕ) → k < length (cond b (x ∷ filter p xs) (filter p xs)) → get_or (cond b (x ∷ filter p xs) (filter p xs)) k q ≡ q → Contains (x ∷ xs) q) [
  | true ↦ at_first q x xs (filter p xs) (kept_in p xs q)
  | false ↦ λ j l f. behind q x xs (kept_in p xs q j l f)
] k low e

pub filter_in : (p : ℕ → Bool) (xs : List ℕ) (q : ℕ) → Contains (filter p xs) q → Contains xs q
filter_in p xs q c = kept_in p xs q c.0 c.1 c.2

pub filter_does : (p : ℕ → Bool) (xs : List ℕ) (q : ℕ) → Contains (filter p xs) q → p q ≡ true
filter_does p xs q c = subst (λ x. p x ≡ true) c.2 (filter_passes p xs c.0 q c.1)

-- ---- numbers below a limit ----

pub number_here : (limit k q : ℕ) → k < limit → get_or (numbers_from 0 limit) k q ≡ k
number_here limit k q low = let none : 0 + k ≡ k = omega arith in get_or_from_slice_get (numbers_from 0 limit) k k q (numbers_at 0 limit k low ∙ ap (λ z. Some z) none)

pub filtered_among : (P : ℕ → Type 0) (p : ℕ → Bool) (limit : ℕ) → ((q : ℕ) → q < limit → P q → p q ≡ true) → AreAmong P limit (filter p (numbers_from 0 limit))
filtered_among P p limit h = record {
  ascending = ascends_filter p 0 (numbers_from 0 limit) (ascends_numbers 0 limit);
  within = λ q c.
      let k = filter_in p (numbers_from 0 limit) q c in
      let low : k.0 < limit = omega (arith, k.1, length-from 0 limit) in
      let is : k.0 ≡ q = sym (number_here limit k.0 q low) ∙ k.2 in
      omega (arith, is, low);
  each = λ q low does. filter_has p (numbers_from 0 limit) q (h q low does) (q, omega (arith, length-from 0 limit), number_here limit q q low);
}

-- ---- states that are alike ----

-- the word of a register of a state in columns
word_of : (c : Columns) (start : WState) (q register : ℕ) → register < 4 → values_of (outcome_at c start q) register ≡ get_or (column_of c register) q (values_of start register)
word_of c start q zero low = refl
word_of c start q (suc zero) low = refl
word_of c start q (suc (suc zero)) low = refl
word_of c start q (suc (suc (suc zero))) low = refl
word_of c start q (suc (suc (suc (suc x)))) low = absurd (omega arith)

pub has_column : (c : Columns) (k register : ℕ) → AreFull k c → register < k → k ≤ 4 → length (column_of c register) ≡ length c.flags.items
has_column c k register full low few = full register (omega arith) ∙ ap (λ b. cond b (length c.flags.items) 0) (lt-ltb register k low)

module _ (c : Columns) (start end : WState) (mask q : ℕ) (like : IsLike c start end mask q) where
  -- no item of the mask differs
  item_like : (x : ℕ) → has mask x ≡ true → values_of (outcome_at c start q) x ≡ values_of end x
  item_like x h = elim (cases_Bool (values_of (outcome_at c start q) x == values_of end x)) [
    | inl same ↦ eqb-true (values_of (outcome_at c start q) x) (values_of end x) same
    | inr other ↦ absurd (like (x, h, λ e. false≢true (sym other ∙ eq-eqb (values_of (outcome_at c start q) x) (values_of end x) e)))
  ]

  quiet_at : (x : ℕ) → differs_at mask (values_of (outcome_at c start q)) (values_of end) x ≡ false
  quiet_at x = elim (cases_Bool (has mask x)) [
    | inl h ↦ rw (h, eq-eqb (values_of (outcome_at c start q) x) (values_of end x) (item_like x h)) refl
    | inr h ↦ rw h refl
  ]

  word_like : (register : ℕ) → register < 4 → has mask register ≡ true → q < length (column_of c register) → get_or (column_of c register) q 0 ≡ values_of end register
  word_like register low h within = get_or_default (column_of c register) q 0 (values_of start register) within ∙ sym (word_of c start q register low) ∙ item_like register h

  flags_like : flags_differ mask (get_or c.flags.items q 0) end.nzcv ≡ false
  flags_like = rw (quiet_at 15, quiet_at 16, quiet_at 17, quiet_at 18) refl

  keeps_like : (wanted : Bool) (column : List ℕ) (other word : ℕ) → (wanted && not (get_or column q other == word)) ≡ false → keeps_word wanted column other word q ≡ true
  keeps_like true column other word h = not-false (get_or column q other == word) h
  keeps_like false column other word h = refl

pub word_among : (c : Columns) (start end : WState) (mask k register limit word : ℕ) (column : List ℕ) (numbers : List ℕ) → AreFull k c → register < k → k ≤ 4 → has mask register ≡ true → limit ≤ length c.flags.items
    → column ≡ column_of c register → word ≡ values_of end register → numbers ≡ filter (λ q. get_or column q 0 == word) (numbers_from 0 limit) → AreAmong (IsLike c start end mask) limit numbers
word_among c start end mask k register limit word column numbers full low few h within is e n =
    let size = has_column c k register full low few in
    subst (AreAmong (IsLike c start end mask) limit) (sym n) (filtered_among (IsLike c start end mask) (λ q. get_or column q 0 == word) limit (λ q small like.
    eq-eqb (get_or column q 0) word (ap (λ xs. get_or xs q 0) is ∙ word_like c start end mask q like register (omega arith) h (omega arith) ∙ sym e)))

pub flags_among : (c : Columns) (start end : WState) (mask limit : ℕ) (flags numbers : List ℕ) → flags ≡ c.flags.items → numbers ≡ filter (λ q. not (flags_differ mask (get_or flags q 0) end.nzcv)) (numbers_from 0 limit)
    → AreAmong (IsLike c start end mask) limit numbers
flags_among c start end mask limit flags numbers is n =
    subst (AreAmong (IsLike c start end mask) limit) (sym n) (filtered_among (IsLike c start end mask) (λ q. not (flags_differ mask (get_or flags q 0) end.nzcv)) limit (λ q small like.
    ap (λ xs. not (flags_differ mask (get_or xs q 0) end.nzcv)) is ∙ ap (λ b. not b) (flags_like c start end mask q like)))

-- ---- five scans: four registers and the flags ----

-- what the test of a word says
said : (wanted : Bool) (column : List ℕ) (other word q : ℕ) → keeps_word wanted column other word q ≡ true → (wanted && not (get_or column q other == word)) ≡ false
said true column other word q h = ap (λ b. not b) h
said false column other word q h = refl

none_of_eight : (a b c d n z k v : Bool) → a ≡ false → b ≡ false → c ≡ false → d ≡ false → (n || z || k || v) ≡ false → (a || b || c || d || n || z || k || v) ≡ false
none_of_eight false false false false n z k v a b c d h = h
none_of_eight true b c d n z k v a e f g h = absurd (false≢true (sym a))
none_of_eight a true c d n z k v e b f g h = absurd (false≢true (sym b))
none_of_eight a b true d n z k v e f c g h = absurd (false≢true (sym c))
none_of_eight a b c true n z k v e f g d h = absurd (false≢true (sym d))

pub look_is : (wanted b : Bool) (column items : List ℕ) (other word : ℕ) (old new : List ℕ) → new ≡ filter (keeps_word wanted column other word) old → wanted ≡ b → column ≡ items → new ≡ filter (keeps_word b items other word) old
look_is wanted b column items other word old new e f g = e ∙ ap (λ t. filter (keeps_word t column other word) old) f ∙ ap (λ xs. filter (keeps_word b xs other word) old) g

pub all_looks : (c : Columns) (start end : WState) (mask limit : ℕ) (xs0 xs1 xs2 xs3 xs4 xs5 : List ℕ) → ((x : ℕ) → has mask x ≡ true → is_in_masks x ≡ true) → AreAmong (IsLike c start end mask) limit xs0
    → xs1 ≡ filter (keeps_word (has mask 0) c.r0.items (slice_index start.r 0) (slice_index end.r 0)) xs0
    → xs2 ≡ filter (keeps_word (has mask 1) c.r1.items (slice_index start.r 1) (slice_index end.r 1)) xs1
    → xs3 ≡ filter (keeps_word (has mask 2) c.r2.items (slice_index start.r 2) (slice_index end.r 2)) xs2
    → xs4 ≡ filter (keeps_word (has mask 3) c.r3.items (slice_index start.r 3) (slice_index end.r 3)) xs3
    → xs5 ≡ filter (λ q. not (flags_differ mask (get_or c.flags.items q 0) end.nzcv)) xs4
    → AreThose (IsLike c start end mask) limit xs5
all_looks c start end mask limit xs0 xs1 xs2 xs3 xs4 xs5 in_masks among e1 e2 e3 e4 e5 =
    let p0 : ℕ → Bool = keeps_word (has mask 0) c.r0.items (slice_index start.r 0) (slice_index end.r 0) in
    let p1 : ℕ → Bool = keeps_word (has mask 1) c.r1.items (slice_index start.r 1) (slice_index end.r 1) in
    let p2 : ℕ → Bool = keeps_word (has mask 2) c.r2.items (slice_index start.r 2) (slice_index end.r 2) in
    let p3 : ℕ → Bool = keeps_word (has mask 3) c.r3.items (slice_index start.r 3) (slice_index end.r 3) in
    let p4 : ℕ → Bool = λ q. not (flags_differ mask (get_or c.flags.items q 0) end.nzcv) in
    record {
      ascending =
          subst (λ xs. ascends_from 0 xs ≡ true) (sym e5) (ascends_filter p4 0 xs4
          (subst (λ xs. ascends_from 0 xs ≡ true) (sym e4) (ascends_filter p3 0 xs3
          (subst (λ xs. ascends_from 0 xs ≡ true) (sym e3) (ascends_filter p2 0 xs2
          (subst (λ xs. ascends_from 0 xs ≡ true) (sym e2) (ascends_filter p1 0 xs1
          (subst (λ xs. ascends_from 0 xs ≡ true) (sym e1) (ascends_filter p0 0 xs0 among.ascending)))))))));
      such = λ q. (
        λ there.
            let c5 = subst (λ xs. Contains xs q) e5 there in
            let c4 = subst (λ xs. Contains xs q) e4 (filter_in p4 xs4 q c5) in
            let c3 = subst (λ xs. Contains xs q) e3 (filter_in p3 xs3 q c4) in
            let c2 = subst (λ xs. Contains xs q) e2 (filter_in p2 xs2 q c3) in
            let c1 = subst (λ xs. Contains xs q) e1 (filter_in p1 xs1 q c2) in
            let t0 = said (has mask 0) c.r0.items (slice_index start.r 0) (slice_index end.r 0) q (filter_does p0 xs0 q c1) in
            let t1 = said (has mask 1) c.r1.items (slice_index start.r 1) (slice_index end.r 1) q (filter_does p1 xs1 q c2) in
            let t2 = said (has mask 2) c.r2.items (slice_index start.r 2) (slice_index end.r 2) q (filter_does p2 xs2 q c3) in
            let t3 = said (has mask 3) c.r3.items (slice_index start.r 3) (slice_index end.r 3) q (filter_does p3 xs3 q c4) in
            let tf = not-true (flags_differ mask (get_or c.flags.items q 0) end.nzcv) (filter_does p4 xs4 q c5) in
            let v = values_of (outcome_at c start q) in
            let w = values_of end in
            let none : differs_anywhere mask v w ≡ false = none_of_eight (differs_at mask v w 0) (differs_at mask v w 1) (differs_at mask v w 2) (differs_at mask v w 3) (differs_at mask v w 15) (differs_at mask v w 16) (differs_at mask v w 17) (differs_at mask v w 18) t0 t1 t2 t3 tf in
            (among.within q (filter_in p0 xs0 q c1), λ differ. false≢true (sym none ∙ (differs_is mask v w in_masks).1 differ)),
        λ h.
            let like = h.1 in
            let q0 = quiet_at c start end mask q like in
            let c0 = among.each q h.0 like in
            let c1 = subst (λ xs. Contains xs q) (sym e1) (filter_has p0 xs0 q (keeps_like c start end mask q like (has mask 0) c.r0.items (slice_index start.r 0) (slice_index end.r 0) (q0 0)) c0) in
            let c2 = subst (λ xs. Contains xs q) (sym e2) (filter_has p1 xs1 q (keeps_like c start end mask q like (has mask 1) c.r1.items (slice_index start.r 1) (slice_index end.r 1) (q0 1)) c1) in
            let c3 = subst (λ xs. Contains xs q) (sym e3) (filter_has p2 xs2 q (keeps_like c start end mask q like (has mask 2) c.r2.items (slice_index start.r 2) (slice_index end.r 2) (q0 2)) c2) in
            let c4 = subst (λ xs. Contains xs q) (sym e4) (filter_has p3 xs3 q (keeps_like c start end mask q like (has mask 3) c.r3.items (slice_index start.r 3) (slice_index end.r 3) (q0 3)) c3) in
            subst (λ xs. Contains xs q) (sym e5) (filter_has p4 xs4 q (ap (λ b. not b) (flags_like c start end mask q like)) c4),
      );
    }
