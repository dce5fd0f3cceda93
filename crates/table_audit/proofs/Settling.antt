-- The loop over the numbers that are tried: the first untold sequence so far.
use Rattle.std.proofs.Common.{◌≡◌, ℕ, zero, suc, ◌+◌, ◌<◌, ◌≤◌, ◌⊎◌, inl, inr, true, List, [], ◌∷◌, Option, Some, None, Contains, MatchOption, drop, length, get_or, slice_get, refl, sym, ◌∙◌, ap, subst, arith}
use Rattle.std.proofs.Math.Seq.{drop-cons}
use Rattle.std.proofs.lemmas.Bool.{cases_lt}
use Rattle.std.proofs.lemmas.List.{drop_all}
use Rattle.std.proofs.lemmas.List.Elements.{Contains-get_or}
use Rattle.std.proofs.lemmas.Option.{same_Some}
use Rattle.thumb_instr.specs.declared.instr.Instr.{Instr}
use Rattle.window_exec.specs.declared.state.WState.{WState}
use Rattle.window_exec.specs.State.{seen, Seen}
use Rattle.seq_enum.specs.Alphabet.{ascends_from, alphabet, sequences, sequences_of}
use Rattle.fingerprints.specs.Outcomes as table
use Rattle.fingerprints.specs.Outcomes.{Extent}
use Rattle.fingerprints.specs.Tables.{IsFor}
use Rattle.rule_table.specs.Table.{Rule, Table}
use Rattle.table_audit.specs.declared.errors.EntryFault.TheVariants.{Untold}
use Rattle.table_audit.specs.declared.errors.AuditError.TheVariants.{Entry}
use Rattle.table_audit.specs.Shorter.{alphabet_registers, sequences_below, weight_in}
use Rattle.table_audit.specs.Lighter.{IsWithin, CoverUntold}
use Rattle.table_audit.specs.Acceptance.{IsUntold, IsFirstUntold, ToldVerdict}
use Rattle.table_audit.proofs.Numbering.{below_in}
use Rattle.table_audit.proofs.Upcoming.{ascends_above, ascends_drop}
use Rattle.thumb_model.proofs.Lists.{present_at}

-- ---- the first so far ----

-- the number comes no later than q, by weight and then by number
abbrev pub ComesFirst : (limit number weight q : ℕ) → Type 0
ComesFirst limit number weight q = (limit < weight) ⊎ ((limit ≡ weight) × (number ≤ q))

-- of the sequences of the numbers before, this one is untold and the first such; the numbers to come are above its own
pub record IsFirstBefore (t : Table) (e : Rule) (rest : List ℕ) (number limit : ℕ) : Type 0 where
  pub seq : List Instr
  pub is : IsUntold t e number seq
  pub weighs : weight_in t.header seq ≡ limit
  pub before : (q : ℕ) → Contains rest q → number < q
  pub first : (q : ℕ) (other : List Instr) → IsUntold t e q other → Contains rest q ⊎ ComesFirst limit number (weight_in t.header other) q

-- where there is none yet, the limit is the right side's weight
abbrev pub SoFar : Table → Rule → List ℕ → Option ℕ → ℕ → Type 0
SoFar t e rest None limit = (limit ≡ weight_in t.header e.right) × ((q : ℕ) (other : List Instr) → IsUntold t e q other → Contains rest q)
SoFar t e rest (Some number) limit = IsFirstBefore t e rest number limit

-- what is known after the first i numbers: the first untold one so far, and the weight that a better one must stay below
pub record SettledBefore (t : Table) (e : Rule) (numbers : List ℕ) (i : ℕ) (first : Option ℕ) (limit : ℕ) : Type 0 where
  pub most : limit ≤ weight_in t.header e.right
  pub so_far : SoFar t e (drop i numbers) first limit

split : (numbers : List ℕ) (i : ℕ) → i < length numbers → drop i numbers ≡ get_or numbers i 0 ∷ drop (i + 1) numbers
split numbers i low = let one : suc i ≡ i + 1 = omega arith in drop-cons numbers i 0 low ∙ ap (λ n. get_or numbers i 0 ∷ drop n numbers) one

first_or_later : (x : ℕ) (ys : List ℕ) (q : ℕ) → Contains (x ∷ ys) q → (x ≡ q) ⊎ Contains ys q
first_or_later x ys q c = found c.0 c.1 c.2
  where
    found : (k : ℕ) → k < length (x ∷ ys) → get_or (x ∷ ys) k q ≡ q → (x ≡ q) ⊎ Contains ys q
    found zero low e = inl e
    found (suc k) low e = inr (k, omega (arith, low), e)

-- the sequence of a number that is tried
module _ (t : Table) (e : Rule) (numbers : List ℕ) (i : ℕ) (low : i < length numbers) (cover : CoverUntold t e numbers) (instrs : List Instr) (is : instrs ≡ alphabet (alphabet_registers t.header e.left) t.header.pool)
    (o : Option (List Instr)) (got : o ≡ slice_get (sequences_of instrs) (get_or numbers i 0)) where
  its_within : IsWithin t e (get_or numbers i 0)
  its_within = cover.within (get_or numbers i 0) (Contains-get_or numbers i 0 low)

  its_option : o ≡ Some its_within.seq
  its_option = got ∙ ap (λ ls. slice_get (sequences_of ls) (get_or numbers i 0)) is ∙ its_within.at

  pub cover_there : o ≡ None → ⊥
  cover_there none = let no : None ≡ Some its_within.seq = sym none ∙ its_option in absurd (cc)

  pub cover_at : (seq : List Instr) → o ≡ Some seq → (slice_get (sequences (alphabet_registers t.header e.left) t.header.pool) (get_or numbers i 0) ≡ Some seq) × (length seq ≤ length e.left)
  cover_at seq e' =
      let same : its_within.seq ≡ seq = same_Some its_within.seq seq (sym its_option ∙ e') in
      (its_within.at ∙ ap (λ z. Some z) same, subst (λ (w : List Instr). length w ≤ length e.left) same its_within.no_longer)

-- a number has just one sequence
same_sequence : (t : Table) (e : Rule) (x q : ℕ) (seq other : List Instr) → slice_get (sequences (alphabet_registers t.header e.left) t.header.pool) x ≡ Some seq → x ≡ q → IsUntold t e q other → seq ≡ other
same_sequence t e x q seq other at is u = same_Some seq other (sym at ∙ ap (slice_get (sequences (alphabet_registers t.header e.left) t.header.pool)) is ∙ u.below.at)

module _ (t : Table) (e : Rule) (numbers : List ℕ) (i : ℕ) (low : i < length numbers) (ascending : ascends_from 0 numbers ≡ true) (seq : List Instr)
    (at : slice_get (sequences (alphabet_registers t.header e.left) t.header.pool) (get_or numbers i 0) ≡ Some seq) where
  abbrev x : ℕ
  x = get_or numbers i 0

  abbrev rest : List ℕ
  rest = drop (i + 1) numbers

  -- the number is x, or a later one
  this_or_rest : (q : ℕ) → Contains (drop i numbers) q → (x ≡ q) ⊎ Contains rest q
  this_or_rest q c = first_or_later x rest q (subst (λ xs. Contains xs q) (split numbers i low) c)

  above_this : (q : ℕ) → Contains rest q → x < q
  above_this q c = (let l = ascends_above (suc x) rest q (ascends_drop 0 numbers i low ascending) c in omega (arith, l))

  in_rest : (q : ℕ) → Contains rest q → Contains (drop i numbers) q
  in_rest q c = subst (λ xs. Contains xs q) (sym (split numbers i low)) (suc c.0, omega (arith, c.1), c.2)

  this_in : Contains (drop i numbers) x
  this_in = subst (λ xs. Contains xs x) (sym (split numbers i low)) (0, omega arith, refl)

  -- a sequence that isn't lighter comes no sooner
  pub settled_heavy : (first : Option ℕ) (limit : ℕ) → SettledBefore t e numbers i first limit → limit ≤ weight_in t.header seq → SettledBefore t e numbers (i + 1) first limit
  settled_heavy None limit s heavy = record {
    most = s.most;
    so_far = (
      s.so_far.0,
      λ q other u. elim (this_or_rest q (s.so_far.1 q other u)) [
        | inl is ↦ absurd (omega (arith, heavy, s.so_far.0, u.below.lighter, ap (weight_in t.header) (same_sequence t e x q seq other at is u)))
        | inr more ↦ more
      ],
    );
  }
  settled_heavy (Some number) limit s heavy = record {
    most = s.most;
    so_far = record {
      seq = s.so_far.seq;
      is = s.so_far.is;
      weighs = s.so_far.weighs;
      before = λ q c. s.so_far.before q (in_rest q c);
      first = λ q other u. elim (s.so_far.first q other u) [
        | inl c ↦ elim (this_or_rest q c) [
          | inl is ↦ (
              let weight = ap (weight_in t.header) (same_sequence t e x q seq other at is u) in
              let below : number < x = s.so_far.before x this_in in
              elim (cases_lt limit (weight_in t.header other)) [
                | inl less ↦ inr (inl less)
                | inr same ↦ inr (inr (omega (arith, heavy, weight, same), omega (arith, below, is)))
              ]
              )
          | inr more ↦ inl more
        ]
        | inr after ↦ inr after
      ];
    };
  }

  -- nor does one that is named open or told
  pub settled_told : (first : Option ℕ) (limit : ℕ) → SettledBefore t e numbers i first limit → (IsUntold t e x seq → ⊥) → SettledBefore t e numbers (i + 1) first limit
  settled_told None limit s never = record {
    most = s.most;
    so_far = (
      s.so_far.0,
      λ q other u. elim (this_or_rest q (s.so_far.1 q other u)) [
        | inl is ↦ absurd (never (not_this q other is u))
        | inr more ↦ more
      ],
    );
  }
    where
      not_this : (q : ℕ) (other : List Instr) → x ≡ q → IsUntold t e q other → IsUntold t e x seq
      not_this q other is u = subst (λ (w : List Instr). IsUntold t e x w) (sym (same_sequence t e x q seq other at is u)) (subst (λ n. IsUntold t e n other) (sym is) u)
  settled_told (Some number) limit s never = record {
    most = s.most;
    so_far = record {
      seq = s.so_far.seq;
      is = s.so_far.is;
      weighs = s.so_far.weighs;
      before = λ q c. s.so_far.before q (in_rest q c);
      first = λ q other u. elim (s.so_far.first q other u) [
        | inl c ↦ elim (this_or_rest q c) [
          | inl is ↦ absurd (never (subst (λ (w : List Instr). IsUntold t e x w) (sym (same_sequence t e x q seq other at is u)) (subst (λ n. IsUntold t e n other) (sym is) u)))
          | inr more ↦ inl more
        ]
        | inr after ↦ inr after
      ];
    };
  }

  -- one that is lighter and untold is the first now
  pub settled_first : (first : Option ℕ) (limit : ℕ) → SettledBefore t e numbers i first limit → weight_in t.header seq < limit → IsUntold t e x seq → SettledBefore t e numbers (i + 1) (Some x) (weight_in t.header seq)
  settled_first first limit s light untold = record {
    most = omega (arith, s.most, light);
    so_far = record { seq = seq; is = untold; weighs = refl; before = above_this; first = λ q other u. onward first s.so_far q other u };
  }
    where
      here : (q : ℕ) (other : List Instr) → IsUntold t e q other → Contains (drop i numbers) q → Contains rest q ⊎ ComesFirst (weight_in t.header seq) x (weight_in t.header other) q
      here q other u c = elim (this_or_rest q c) [
        | inl is ↦ inr (inr (ap (weight_in t.header) (same_sequence t e x q seq other at is u), omega (arith, is)))
        | inr more ↦ inl more
      ]

      onward : (first : Option ℕ) → SoFar t e (drop i numbers) first limit → (q : ℕ) (other : List Instr) → IsUntold t e q other → Contains rest q ⊎ ComesFirst (weight_in t.header seq) x (weight_in t.header other) q
      onward None h q other u = here q other u (h.1 q other u)
      onward (Some number) h q other u = elim (h.first q other u) [
        | inl c ↦ here q other u c
        | inr after ↦ elim after [
          | inl less ↦ inr (inl (omega (arith, less, light)))
          | inr same ↦ inr (inl (omega (arith, same.0, light)))
        ]
      ]

-- ---- the verdict at the end ----

nothing : {q : ℕ} → Contains [] q → ⊥
nothing c = omega (arith, c.1)

pub settled_verdict : (t : Table) (e : Rule) (number : ℕ) (numbers : List ℕ) (i : ℕ) (first : Option ℕ) (limit : ℕ) → length numbers ≤ i → SettledBefore t e numbers i first limit
    → MatchOption first (ToldVerdict t number e None) (λ q. ToldVerdict t number e (Some (Entry number (Untold q))))
settled_verdict t e number numbers i None limit past s = λ q other u. nothing (subst (λ xs. Contains xs q) (drop_all i numbers past) (s.so_far.1 q other u))
settled_verdict t e number numbers i (Some first) limit past s = (first, (is_first, refl))
  where
    is_first : IsFirstUntold t e first
    is_first = record {
      seq = s.so_far.seq;
      is = s.so_far.is;
      first = λ q other u. elim (s.so_far.first q other u) [
        | inl c ↦ absurd (nothing (subst (λ xs. Contains xs q) (drop_all i numbers past) c))
        | inr after ↦ elim after [
          | inl less ↦ inl (omega (arith, less, s.so_far.weighs))
          | inr same ↦ inr (s.so_far.weighs ∙ same.0, same.1)
        ]
      ];
    }

pub is_for_own : (k : ℕ) (pool : List ℕ) (start : WState) (x : Extent) → IsFor k pool start x → IsFor x.registers pool start x
is_for_own k pool start x is = record { registers = refl; alphabet = is.alphabet ∙ ap (λ j. alphabet j pool) (sym is.registers); state = is.state }

-- ---- sequences by number ----

pub record IsHere (k : ℕ) (pool : List ℕ) (n q : ℕ) (seq : List Instr) : Type 0 where
  pub at : slice_get (sequences_below k pool n) q ≡ Some seq
  pub all : slice_get (sequences k pool) q ≡ Some seq
  pub short : length seq < n

pub here : (k : ℕ) (pool : List ℕ) (n q : ℕ) (instrs : List Instr) (o : Option (List Instr)) (seq : List Instr) → n ≤ 6 → instrs ≡ alphabet k pool → q < length (sequences_below k pool n) → o ≡ slice_get (sequences_of instrs) q → o ≡ Some seq → IsHere k pool n q seq
here k pool n q instrs o seq few is low e f =
    let one = present_at (sequences_below k pool n) q low in
    let whole = below_in k pool n q one.0 few one.1 in
    let there : slice_get (sequences k pool) q ≡ Some seq = ap (λ ls. slice_get (sequences_of ls) q) (sym is) ∙ sym e ∙ f in
    let same : one.0 ≡ seq = same_Some one.0 seq (sym whole.0 ∙ there) in
    record { at = one.1 ∙ ap (λ z. Some z) same; all = there; short = (let l = whole.1 in omega (arith, l, ap (λ (w : List Instr). length w) same)) }

pub not_here : (k : ℕ) (pool : List ℕ) (n q : ℕ) (instrs : List Instr) (o : Option (List Instr)) → n ≤ 6 → instrs ≡ alphabet k pool → q < length (sequences_below k pool n) → o ≡ slice_get (sequences_of instrs) q → o ≡ None → ⊥
not_here k pool n q instrs o few is low e f =
    let one = present_at (sequences_below k pool n) q low in
    let whole = below_in k pool n q one.0 few one.1 in
    let clash : None ≡ Some one.0 = sym f ∙ e ∙ ap (λ ls. slice_get (sequences_of ls) q) is ∙ whole.0 in
    absurd (cc)

-- ---- the table of the first state ----

pub same_state : (a b : WState) → seen a ≡ seen b → a ≡ b
same_state a b e = ap (λ (s : Seen). let t : WState = record { r = s.r; nzcv = s.nzcv } in t) e

head_is : {X : Type 0} (x y : X) (xs ys : List X) → (let l : List X = x ∷ xs in l) ≡ y ∷ ys → x ≡ y
head_is x y xs ys e = cc

pub below_same : (k n : ℕ) (pool : List ℕ) (instrs : List Instr) (m : ℕ) → instrs ≡ alphabet k pool → m ≡ n → table.sequences_below instrs m ≡ sequences_below k pool n
unfolding table.sequences_below sequences_below
below_same k n pool instrs m is e = ap (λ j. table.sequences_below instrs j) e ∙ ap (λ ls. table.sequences_below ls n) is
