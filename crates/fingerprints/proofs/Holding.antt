-- Appending an outcome to the columns keeps the invariant that they hold the sequences' outcomes.
use Rattle.std.proofs.Common.{◌≡◌, ℕ, zero, suc, ◌+◌, ◌-◌, ◌<◌, ◌≤◌, ◌==◌, inl, inr, Bool, true, false, List, [], ◌∷◌, ◌++◌, Some, cond, length, get_or, slice_get, slice_index, take, refl, sym, ap, ◌∙◌, subst, arith, nat_lt, length-append, append-nil, append_assoc, if◌then◌else◌}
use Rattle.std.specs.List.{flat_map}
use Rattle.std.proofs.Math.Path.{fun_ext}
use Rattle.std.proofs.lemmas.Bool.{cases_lt, lt-ltb, le-ltb}
use Rattle.std.proofs.lemmas.List.{get_or_append_left, get_or_default, take_more, take_all, map-append}
use Rattle.std.proofs.lemmas.List.Concat.{flat_map-append}
use Rattle.std.proofs.Math.Seq.{get_or-append_seam}
use Rattle.std.proofs.lemmas.Option.{slice_get_within, same_Some, slice_get-get_or}
use Rattle.thumb_instr.specs.declared.instr.Instr.{Instr}
use Rattle.std.specs.Int.{bit_at}
use Rattle.thumb_instr.specs.Window.{is_in_window, named, AreBelow}
use Rattle.thumb_model.specs.Effect.{Values, n_flag, z_flag, c_flag, v_flag, after, after_all}
use Rattle.window_exec.specs.declared.state.WState.{WState}
use Rattle.window_exec.specs.State.{values_of}
use Rattle.seq_enum.proofs.Numbered.{get_back}
use Rattle.fingerprints.specs.declared.outcome_columns.Columns.{Columns}
use Rattle.fingerprints.proofs.KeptRegisters.{instr_keeps}
use Rattle.fingerprints.specs.OutcomeColumns.{outcome_at, extended, IsAfter, count_for, Holds, KeepsFrom, HaveRoom}
use Rattle.fingerprints.specs.Print.{one_if}
use Rattle.common_lemmas.proofs.Lists.{get_front}

-- ---- one more word in a column ----

length-one_if : (b : Bool) (x : ℕ) → length (one_if b x) ≡ (if b then 1 else 0)
length-one_if true x = refl
length-one_if false x = refl

counts : (b : Bool) (n : ℕ) → cond b n 0 + cond b 1 0 ≡ cond b (n + 1) 0
counts true n = refl
counts false n = refl

-- the length of a column after a word was appended
longer : (register k count word : ℕ) (old new : List ℕ) → length old ≡ count_for register k count → new ≡ old ++ one_if (nat_lt register k) word → length new ≡ count_for register k (count + 1)
longer register k count word old new e f =
    ap length f ∙ length-append old (one_if (nat_lt register k) word) ∙ ap (λ n. n + length (one_if (nat_lt register k) word)) e
    ∙ ap (λ n. count_for register k count + n) (length-one_if (nat_lt register k) word) ∙ counts (nat_lt register k) count

-- the earlier words stay
before_in : (b : Bool) (count word i d : ℕ) (old new : List ℕ) → length old ≡ cond b count 0 → new ≡ old ++ one_if b word → i < count → get_or new i d ≡ get_or old i d
before_in true count word i d old new e f low = ap (λ xs. get_or xs i d) f ∙ get_or_append_left old (word ∷ []) d i (omega arith)
before_in false count word i d [] new e f low = ap (λ xs. get_or xs i d) f
before_in false count word i d (x ∷ xs) new e f low = absurd (omega arith)

-- the new word comes after them, if `wanted`
here_in : (b : Bool) (count word i d : ℕ) (old new : List ℕ) → length old ≡ cond b count 0 → new ≡ old ++ one_if b word → i ≡ count → get_or new i d ≡ cond b word d
here_in true count word i d old new e f at = ap (λ xs. get_or xs i d) f ∙ ap (λ n. get_or (old ++ word ∷ []) n d) (at ∙ sym e) ∙ get_or-append_seam old word [] d
here_in false count word i d [] new e f at = ap (λ xs. get_or xs i d) f
here_in false count word i d (x ∷ xs) new e f at = absurd (omega arith)

-- ---- one more state ----

-- the words of a state that has the start state's registers from r(k) on
words_here : (k : ℕ) (register : ℕ) (s start : WState) → KeepsFrom k start s → register < 4 → slice_index s.r register ≡ values_of s register → slice_index start.r register ≡ values_of start register
    → cond (nat_lt register k) (slice_index s.r register) (slice_index start.r register) ≡ slice_index s.r register
words_here k register s start keeps low a b = elim (cases_lt register k) [
  | inl h ↦ rw (lt-ltb register k h) refl
  | inr h ↦ rw (le-ltb register k h) (b ∙ sym (keeps register h low) ∙ sym a)
]

four_words : (r : List ℕ) → length r ≡ 4 → (x : ℕ) → slice_index (slice_index r 0 ∷ slice_index r 1 ∷ slice_index r 2 ∷ slice_index r 3 ∷ []) x ≡ slice_index r x
four_words r e zero = refl
four_words r e (suc zero) = refl
four_words r e (suc (suc zero)) = refl
four_words r e (suc (suc (suc zero))) = refl
four_words (a ∷ b ∷ c ∷ d ∷ []) e (suc (suc (suc (suc x)))) = refl
four_words r e (suc (suc (suc (suc x)))) = absurd (omega arith)

same_values : (s : WState) → length s.r ≡ 4 → values_of (record { r = slice_index s.r 0 ∷ slice_index s.r 1 ∷ slice_index s.r 2 ∷ slice_index s.r 3 ∷ []; nzcv = s.nzcv }) ≡ values_of s
same_values s e =
    fun_ext (λ x. ap (λ n. if x == n_flag then bit_at s.nzcv 3 else if x == z_flag then bit_at s.nzcv 2 else if x == c_flag then bit_at s.nzcv 1 else if x == v_flag then bit_at s.nzcv 0 else n) (four_words s.r e x))

module _ (k : ℕ) (start : WState) (seqs : List (List Instr)) (seq : List Instr) (old new : Columns) (s : WState) (h : Holds k start seqs old) (is : IsAfter k s old new) where
  -- the earlier outcomes stay
  stays : (i : ℕ) → i < length seqs → outcome_at new start i ≡ outcome_at old start i
  stays i low =
      let f : get_or new.flags.items i 0 ≡ get_or old.flags.items i 0 = ap (λ xs. get_or xs i 0) is.flags ∙ get_or_append_left old.flags.items (s.nzcv ∷ []) 0 i (omega (arith, h.flags)) in
      let a = before_in (nat_lt 0 k) (length seqs) (slice_index s.r 0) i (slice_index start.r 0) old.r0.items new.r0.items h.r0 is.r0 low in
      let b = before_in (nat_lt 1 k) (length seqs) (slice_index s.r 1) i (slice_index start.r 1) old.r1.items new.r1.items h.r1 is.r1 low in
      let c = before_in (nat_lt 2 k) (length seqs) (slice_index s.r 2) i (slice_index start.r 2) old.r2.items new.r2.items h.r2 is.r2 low in
      let d = before_in (nat_lt 3 k) (length seqs) (slice_index s.r 3) i (slice_index start.r 3) old.r3.items new.r3.items h.r3 is.r3 low in
      cc

  -- the new state comes after them
  comes : (i : ℕ) → i ≡ length seqs → KeepsFrom k start s → length s.r ≡ 4 → values_of (outcome_at new start i) ≡ values_of s
  comes i e keeps four =
      let f : get_or new.flags.items i 0 ≡ s.nzcv = ap (λ xs. get_or xs i 0) is.flags ∙ ap (λ n. get_or (old.flags.items ++ s.nzcv ∷ []) n 0) (e ∙ sym h.flags) ∙ get_or-append_seam old.flags.items s.nzcv [] 0 in
      let a = here_in (nat_lt 0 k) (length seqs) (slice_index s.r 0) i (slice_index start.r 0) old.r0.items new.r0.items h.r0 is.r0 e ∙ words_here k 0 s start keeps (omega arith) refl refl in
      let b = here_in (nat_lt 1 k) (length seqs) (slice_index s.r 1) i (slice_index start.r 1) old.r1.items new.r1.items h.r1 is.r1 e ∙ words_here k 1 s start keeps (omega arith) refl refl in
      let c = here_in (nat_lt 2 k) (length seqs) (slice_index s.r 2) i (slice_index start.r 2) old.r2.items new.r2.items h.r2 is.r2 e ∙ words_here k 2 s start keeps (omega arith) refl refl in
      let d = here_in (nat_lt 3 k) (length seqs) (slice_index s.r 3) i (slice_index start.r 3) old.r3.items new.r3.items h.r3 is.r3 e ∙ words_here k 3 s start keeps (omega arith) refl refl in
      let whole : outcome_at new start i ≡ record { r = slice_index s.r 0 ∷ slice_index s.r 1 ∷ slice_index s.r 2 ∷ slice_index s.r 3 ∷ []; nzcv = s.nzcv } = cc in
      ap (λ t. values_of t) whole ∙ same_values s four

  pub holds_more : KeepsFrom k start s → length s.r ≡ 4 → values_of s ≡ after_all seq (values_of start) → Holds k start (seqs ++ seq ∷ []) new
  holds_more keeps four end =
      let more : length (seqs ++ seq ∷ []) ≡ length seqs + 1 = length-append seqs (seq ∷ []) in
      record {
        r0 = rw more (longer 0 k (length seqs) (slice_index s.r 0) old.r0.items new.r0.items h.r0 is.r0);
        r1 = rw more (longer 1 k (length seqs) (slice_index s.r 1) old.r1.items new.r1.items h.r1 is.r1);
        r2 = rw more (longer 2 k (length seqs) (slice_index s.r 2) old.r2.items new.r2.items h.r2 is.r2);
        r3 = rw more (longer 3 k (length seqs) (slice_index s.r 3) old.r3.items new.r3.items h.r3 is.r3);
        flags = ap length is.flags ∙ length-append old.flags.items (s.nzcv ∷ []) ∙ ap (λ n. n + 1) h.flags ∙ sym more;
        outcomes = λ i seq' at. elim (cases_lt i (length seqs)) [
          | inl low ↦ ap (λ t. values_of t) (stays i low) ∙ h.outcomes i seq' (sym (get_front seqs (seq ∷ []) i low) ∙ at)
          | inr past ↦ (
              let l = slice_get_within (seqs ++ seq ∷ []) i seq' at in
              let here : i ≡ length seqs = omega (arith, past, more, l) in
              let none : i - length seqs ≡ 0 = omega (arith, here) in
              let same : seq ≡ seq' = same_Some seq seq' (sym (ap (λ n. slice_get (seq ∷ []) n) none) ∙ sym (get_back seqs (seq ∷ []) i past) ∙ at) in
              comes i here keeps four ∙ end ∙ ap (λ w. after_all w (values_of start)) same
              )
        ];
      }

-- ---- one more instruction appended to a sequence ----

after_more : (seq : List Instr) (x : Instr) (v : Values) → after_all (seq ++ x ∷ []) v ≡ after x (after_all seq v)
after_more [] x v = refl
after_more (i ∷ is) x v = after_more is x (after i v)

extended_more : (alphabet : List Instr) (seq : List Instr) (i : ℕ) (x : Instr) → i < length alphabet → x ≡ get_or alphabet i x → extended (take (i + 1) alphabet) seq ≡ extended (take i alphabet) seq ++ (seq ++ x ∷ []) ∷ []
extended_more alphabet seq i x low item =
    ap (λ ls. extended ls seq) (take_more alphabet i x low ∙ ap (λ y. take i alphabet ++ y ∷ []) (sym item)) ∙ map-append (λ y. seq ++ y ∷ []) (take i alphabet) (x ∷ [])

pub instr_next : (k : ℕ) (start : WState) (seqs : List (List Instr)) (seq alphabet : List Instr) (i : ℕ) (x : Instr) (old new : Columns) (from s : WState) → i < length alphabet → x ≡ get_or alphabet i x
    → is_in_window x ≡ true → AreBelow k (named x) → Holds k start (seqs ++ extended (take i alphabet) seq) old → IsAfter k s old new → KeepsFrom k start from → length s.r ≡ 4
    → values_of s ≡ after x (values_of from) → values_of from ≡ after_all seq (values_of start) → Holds k start (seqs ++ extended (take (i + 1) alphabet) seq) new
instr_next k start seqs seq alphabet i x old new from s low item window below h is keeps four step end =
    let later : KeepsFrom k start s = λ y past few. ap (λ v. v y) step ∙ instr_keeps k y x (values_of from) window below past (omega arith) ∙ keeps y past few in
    let there : values_of s ≡ after_all (seq ++ x ∷ []) (values_of start) = step ∙ ap (after x) end ∙ sym (after_more seq x (values_of start)) in
    let more : seqs ++ extended (take (i + 1) alphabet) seq ≡ seqs ++ extended (take i alphabet) seq ++ (seq ++ x ∷ []) ∷ [] =
    ap (λ ws. seqs ++ ws) (extended_more alphabet seq i x low item) ∙ sym (append_assoc seqs (extended (take i alphabet) seq) ((seq ++ x ∷ []) ∷ [])) in
    subst (λ ws. Holds k start ws new) (sym more) (holds_more k start (seqs ++ extended (take i alphabet) seq) (seq ++ x ∷ []) old new s h is later four there)

pub instrs_done : (k : ℕ) (start : WState) (seqs : List (List Instr)) (seq alphabet : List Instr) (i : ℕ) (c : Columns) → length alphabet ≤ i → Holds k start (seqs ++ extended (take i alphabet) seq) c → Holds k start (seqs ++ extended alphabet seq) c
instrs_done k start seqs seq alphabet i c past h = subst (λ ls. Holds k start (seqs ++ extended ls seq) c) (take_all i alphabet past) h

-- ---- one more sequence, with each instruction appended ----

empty_column : (register k count i d : ℕ) (xs : List ℕ) → length xs ≡ count_for register k count → k ≤ register → get_or xs i d ≡ d
empty_column register k count i d [] e past = refl
empty_column register k count i d (x ∷ xs) e past = absurd (let none : length (x ∷ xs) ≡ 0 = e ∙ ap (λ b. cond b count 0) (le-ltb register k past) in omega arith)

-- the registers without a column have the start state's words
pub keeps_at : (k : ℕ) (start : WState) (seqs : List (List Instr)) (c : Columns) (i : ℕ) → Holds k start seqs c → KeepsFrom k start (outcome_at c start i)
keeps_at k start seqs c i h zero past low = empty_column 0 k (length seqs) i _ c.r0.items h.r0 past
keeps_at k start seqs c i h (suc zero) past low = empty_column 1 k (length seqs) i _ c.r1.items h.r1 past
keeps_at k start seqs c i h (suc (suc zero)) past low = empty_column 2 k (length seqs) i _ c.r2.items h.r2 past
keeps_at k start seqs c i h (suc (suc (suc zero))) past low = empty_column 3 k (length seqs) i _ c.r3.items h.r3 past
keeps_at k start seqs c i h (suc (suc (suc (suc x)))) past low = absurd (omega arith)

-- the sequence at a place among the longest
pub next_at : (shorter longest more : List (List Instr)) (first place : ℕ) → length shorter ≡ first → first ≤ place → place < length (shorter ++ longest) → (seq : List Instr) × (slice_get (shorter ++ longest ++ more) place ≡ Some seq) × (seq ≡ get_or longest (place - first) seq) × (place - first < length longest)
next_at shorter longest more first place size past low =
    let l = length-append shorter longest in
    let within : place - first < length longest = omega (arith, l, low) in
    let seq : List Instr = get_or longest (place - first) [] in
    let there : place - length shorter ≡ place - first = omega (arith, size) in (
      seq,
      get_front (shorter ++ longest) more place low ∙ get_back shorter longest place (omega (arith, size)) ∙ ap (slice_get longest) there ∙ slice_get-get_or {X = List Instr} longest (place - first) [] within,
      get_or_default longest (place - first) [] seq within,
      within,
    )

pub sequence_next : (alphabet : List Instr) (longest : List (List Instr)) (first place : ℕ) (seq : List Instr) → first ≤ place → place - first < length longest → seq ≡ get_or longest (place - first) seq
    → flat_map (extended alphabet) (take (place + 1 - first) longest) ≡ flat_map (extended alphabet) (take (place - first) longest) ++ extended alphabet seq
sequence_next alphabet longest first place seq past low item =
    let one : place + 1 - first ≡ place - first + 1 = omega arith in
    ap (λ n. flat_map (extended alphabet) (take n longest)) one
    ∙ ap (flat_map (extended alphabet)) (take_more longest (place - first) seq low ∙ ap (λ w. take (place - first) longest ++ w ∷ []) (sym item))
    ∙ flat_map-append (extended alphabet) (take (place - first) longest) (seq ∷ [])
    ∙ ap (λ ws. flat_map (extended alphabet) (take (place - first) longest) ++ ws) (append-nil (extended alphabet seq))

pub holds_next : (k : ℕ) (start : WState) (alphabet : List Instr) (shorter longest : List (List Instr)) (first place : ℕ) (old new : Columns) (from : WState) → length shorter ≡ first → first ≤ place → place < length (shorter ++ longest)
    → Holds k start (shorter ++ longest ++ flat_map (extended alphabet) (take (place - first) longest)) old → from ≡ outcome_at old start place
    → ((seqs : List (List Instr)) (seq : List Instr) → Holds k start seqs old → KeepsFrom k start from → values_of from ≡ after_all seq (values_of start) → Holds k start (seqs ++ extended alphabet seq) new)
    → Holds k start (shorter ++ longest ++ flat_map (extended alphabet) (take (place + 1 - first) longest)) new
holds_next k start alphabet shorter longest first place old new from size past low h is next =
    let more = flat_map (extended alphabet) (take (place - first) longest) in
    let here = next_at shorter longest more first place size past low in
    let keeps : KeepsFrom k start from = subst (KeepsFrom k start) (sym is) (keeps_at k start (shorter ++ longest ++ more) old place h) in
    let end : values_of from ≡ after_all here.0 (values_of start) = ap (λ s. values_of s) is ∙ h.outcomes place here.0 here.1 in
    let grown = next (shorter ++ longest ++ more) here.0 h keeps end in
    let lists : shorter ++ longest ++ flat_map (extended alphabet) (take (place + 1 - first) longest) ≡ shorter ++ longest ++ more ++ extended alphabet here.0 =
    ap (λ ws. shorter ++ longest ++ ws) (sequence_next alphabet longest first place here.0 past here.3 here.2) ∙ sym (append_assoc (shorter ++ longest) more (extended alphabet here.0)) in
    subst (λ ws. Holds k start ws new) (sym lists) grown

pub lengths_done : (k : ℕ) (start : WState) (alphabet : List Instr) (shorter longest : List (List Instr)) (first place count : ℕ) (old c : Columns) → length shorter ≡ first → Holds k start (shorter ++ longest) old → count ≡ length old.flags.items → count ≤ place
    → Holds k start (shorter ++ longest ++ flat_map (extended alphabet) (take (place - first) longest)) c → Holds k start (shorter ++ longest ++ flat_map (extended alphabet) longest) c
lengths_done k start alphabet shorter longest first place count old c size h e past g =
    let all : length longest ≤ place - first = omega (arith, length-append shorter longest, h.flags) in
    subst (λ ws. Holds k start (shorter ++ longest ++ flat_map (extended alphabet) ws) c) (take_all (place - first) longest all) g

-- ---- room ----

pub less_room : (k less more : ℕ) (c : Columns) → less ≤ more → HaveRoom k more c → HaveRoom k less c
less_room k less more c fewer room = record {
  r0 = λ wanted. omega (arith, fewer, room.r0 wanted);
  r1 = λ wanted. omega (arith, fewer, room.r1 wanted);
  r2 = λ wanted. omega (arith, fewer, room.r2 wanted);
  r3 = λ wanted. omega (arith, fewer, room.r3 wanted);
  flags = omega (arith, fewer, room.flags);
}
