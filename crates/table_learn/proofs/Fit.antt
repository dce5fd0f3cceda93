-- The invariant of an entry is preserved while more states are found and open numbers dropped, and such entries pass the audit.
use Rattle.std.proofs.Common.{◌≡◌, ℕ, suc, ◌+◌, ◌≤◌, ◌⊎◌, ◌==◌, inl, inr, Bool, true, false, not, List, [], ◌∷◌, ◌++◌, Option, Some, None, cond, filter, length, slice_get, refl, sym, ◌∙◌, ap, subst, arith, eqb-true, nat_le}
use Rattle.std.proofs.lemmas.Bool.{or_cases, or_left, or_right, false≢true, true≢false, and_parts, leb-true, not-true}
use Rattle.seq_enum.specs.Alphabet.{ascends_from}
use Rattle.thumb_instr.specs.declared.instr.Instr.{Instr}
use Rattle.window_exec.specs.State.{Seen}
use Rattle.rule_table.specs.Table.{Opened, Rule, Table, numbers_of}
use Rattle.lrat_check.specs.Proofs.{InTurn}
use Rattle.table_audit.specs.declared.errors.EntryFault.TheVariants.{Proof, Unfinished}
use Rattle.table_audit.specs.declared.errors.AuditError.TheVariants.{Entry}
use Rattle.table_audit.specs.Shorter.{formula_of, formula_against, weight_in, below_at, is_named}
use Rattle.table_audit.specs.Acceptance.{EntryVerdict, IsUntold, OpenTest}
use Rattle.table_audit.proofs.Below.{below_is}
use Rattle.table_learn.specs.Learnt.{Settings, KeepsOrLowers}
use Rattle.table_learn.specs.Tellings.{told}
use Rattle.table_learn.specs.Fitness.{IsFit, tells_number, stays_open, without_told}
use Rattle.table_learn.specs.Progress.{table_with}
use Rattle.table_learn.proofs.Certificates.{refutation_passes, search_spends}
use Rattle.table_learn.proofs.Telling.{told_is, untold, told_more, told-append, untold_both}
pub use Rattle.fingerprints.proofs.Members.{filter_at}
use Rattle.seq_enum.proofs.Ascending.{ascends_lower}

-- ---- the audit ----

pub turn_all : {X F : Type 0} (test : ℕ → X → Option F → Type 0) (m : ℕ) (xs : List X) → ((i : ℕ) (x : X) → slice_get xs i ≡ Some x → test (m + i) x None) → InTurn test m xs None
turn_all test m [] h = tt
turn_all test m (x ∷ xs) h =
    let first : m + 0 ≡ m = omega arith in (
      subst (λ j. test j x None) first (h 0 x refl),
      turn_all test (m + 1) xs (λ i y e. let k : m + suc i ≡ m + 1 + i = omega arith in subst (λ j. test j y None) k (h (suc i) y e)),
    )

pub no_longer : (s : Settings) (e : Rule) → KeepsOrLowers s e → length e.right ≤ length e.left
no_longer s e (inl same) = let l : length e.right ≡ length e.left = ap length same in omega (arith, l)
no_longer s e (inr lower) = lower.1.no_longer

no_dearer : (s : Settings) (e : Rule) → KeepsOrLowers s e → weight_in s e.right ≤ weight_in s e.left
no_dearer s e (inl same) = let w : weight_in s e.right ≡ weight_in s e.left = ap (weight_in s) same in omega (arith, w)
no_dearer s e (inr lower) = let less = lower.1.lighter in omega (arith, less)

-- each sequence below an entry's right side is distinguished by a state or left open
none_untold : (s : Settings) (states : List Seen) (rules : List Rule) (e : Rule) → IsFit s states states e → (q : ℕ) (seq : List Instr) → IsUntold (table_with s states rules) e q seq → ⊥
none_untold s states rules e f q seq u = elim (f.settles q seq u.below) [
  | inl named ↦ true≢false (sym named ∙ u.unnamed)
  | inr does ↦ u.untold (told_is states e.left seq e.mask does)
]

pub fit_passes : (s : Settings) (states : List Seen) (rules : List Rule) (n : ℕ) (e : Rule) → IsFit s states states e → EntryVerdict (table_with s states rules) n e None
unfolding EntryVerdict
fit_passes s states rules n e f =
    let t : Table = table_with s states rules in (
      record {
        canonical = f.window.canonical;
        short = f.window.short;
        few = f.window.few;
        left = f.window.over;
        right = f.right;
        no_longer = no_longer s e f.keeps;
        no_dearer = no_dearer s e f.keeps;
        mask = f.window.mask;
      },
      (
        refutation_passes (λ line. Entry n (Proof line)) (Entry n Unfinished) s.budget (formula_of s e) e.proof f.proved,
        (
          none_untold s states rules e f,
          turn_all (OpenTest t n e) 0 e.opens (λ i o at. let name = f.names i o at in record {
            seq = name.seq;
            below = name.below;
            untold = untold states e.left name.seq e.mask f.mask name.untold;
            spent = search_spends s.budget (formula_against s e name.seq) o.log name.log;
          }),
        ),
      ),
    )

-- ---- more states ----

pub fit_more : (s : Settings) (tellers more silent : List Seen) (e : Rule) → IsFit s tellers silent e → IsFit s (tellers ++ more) silent e
fit_more s tellers more silent e f = record {
  window = f.window;
  mask = f.mask;
  right = f.right;
  keeps = f.keeps;
  proved = f.proved;
  lines = f.lines;
  settles = λ q seq below. elim (f.settles q seq below) [
    | inl named ↦ inl named
    | inr does ↦ inr (told_more tellers more e.left seq e.mask does)
  ];
  names = f.names;
  ascending = f.ascending;
}

-- ---- filters ----

-- a filter that keeps all open sequences with a number leaves the number open
pub named-filter : (p : Opened → Bool) (opens : List Opened) (q : ℕ) → ((o : Opened) → o.number ≡ q → p o ≡ true) → is_named opens q ≡ true → is_named (filter p opens) q ≡ true
named-filter p [] q h k = absurd (cc)
named-filter p (o ∷ opens) q h k =
    elim (p o) as (λ b. p o ≡ b → is_named (cond b (o ∷ filter p opens) (filter p opens)) q ≡ true) [
      | true ↦ λ e. elim (or_cases (o.number == q) (is_named opens q) k) [
        | inl r ↦ or_left _ _ r
        | inr r ↦ or_right (o.number == q) _ (named-filter p opens q h r)
      ]
      | false ↦ λ e. elim (or_cases (o.number == q) (is_named opens q) k) [
        | inl r ↦ absurd (false≢true (sym e ∙ h o (eqb-true o.number q r)))
        | inr r ↦ named-filter p opens q h r
      ]
    ] refl

pub ascends-filter : (p : Opened → Bool) (low : ℕ) (opens : List Opened) → ascends_from low (numbers_of opens) ≡ true → ascends_from low (numbers_of (filter p opens)) ≡ true
unfolding ascends_from
ascends-filter p low [] a = refl
ascends-filter p low (o ∷ opens) a =
    let parts = and_parts (nat_le low o.number) (ascends_from (suc o.number) (numbers_of opens)) a in
    elim (p o) as (λ b. ascends_from low (numbers_of (cond b (o ∷ filter p opens) (filter p opens))) ≡ true) [
      | true ↦ rw parts.0 (ascends-filter p (suc o.number) opens parts.1)
      | false ↦ (let k : low ≤ o.number = leb-true low o.number parts.0 in ascends-filter p low opens (ascends_lower low (suc o.number) (numbers_of opens) (omega (arith, k)) parts.1))
    ]

-- ---- without what the found states distinguish ----

pub fit_without : (s : Settings) (silent found : List Seen) (e : Rule) → IsFit s (silent ++ found) silent e → IsFit s (silent ++ found) (silent ++ found) (without_told s found e)
fit_without s silent found e f = record {
  window = record { canonical = f.window.canonical; short = f.window.short; few = f.window.few; over = f.window.over; mask = f.window.mask };
  mask = f.mask;
  right = f.right;
  keeps = f.keeps;
  proved = record { log = f.proved.log; refutes = f.proved.refutes; says = f.proved.says };
  lines = f.lines;
  settles = λ q seq below.
      elim (told found e.left seq e.mask) as (λ b. told found e.left seq e.mask ≡ b → (is_named (without_told s found e).opens q ≡ true) ⊎ (told (silent ++ found) e.left seq e.mask ≡ true)) [
        | true ↦ λ k. inr (told-append silent found e.left seq e.mask ∙ or_right (told silent e.left seq e.mask) _ k)
        | false ↦ λ k. elim (f.settles q seq below) [
          | inl r ↦ inl (named-filter (stays_open s found e) e.opens q
              (λ o same. let here : below_at s e.left e.right o.number ≡ Some seq = subst (λ j. below_at s e.left e.right j ≡ Some seq) (sym same) (below_is s e.left e.right q seq below) in
              ap not (ap (tells_number found e) here ∙ k)) r)
          | inr r ↦ inr r
        ]
      ] refl;
  names = λ i o at.
      let kept = filter_at (stays_open s found e) e.opens i o at in
      let name = f.names kept.1.0 o kept.1.1 in
      let quiet : told found e.left name.seq e.mask ≡ false = sym (ap (tells_number found e) (below_is s e.left e.right o.number name.seq name.below)) ∙ not-true (tells_number found e (below_at s e.left e.right o.number)) kept.0 in
      record {
        seq = name.seq;
        below = name.below;
        untold = untold_both silent found e.left name.seq e.mask name.untold quiet;
        log = name.log;
        lines = name.lines;
      };
  ascending = ascends-filter (stays_open s found e) 0 e.opens f.ascending;
}
