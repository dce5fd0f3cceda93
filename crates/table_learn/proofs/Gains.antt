-- The learner's invariant before the first window and after one more, and the learnt table that follows from it at the end.
use Rattle.std.proofs.Common.{◌≡◌, ℕ, zero, suc, ◌+◌, ◌-◌, ◌<◌, ◌≤◌, ◌^◌, ◌%◌, ◌/◌, ◌*◌, inl, inr, List, [], ◌∷◌, ◌++◌, Some, All, length, map, slice_get, take, refl, sym, ◌∙◌, ap, subst, arith, zero-add, length-append}
use Rattle.std.proofs.lemmas.List.{take-append-le, take_all, map-append}
use Rattle.std.proofs.lemmas.List.Elements.{All-nil, All-cons, All-append}
use Rattle.std.proofs.lemmas.Bool.{cases_lt}
use Rattle.std.proofs.lemmas.Option.{slice_get_within}
use Rattle.thumb_instr.specs.declared.instr.Instr.{Instr}
use Rattle.thumb_model.specs.Effect.{AreOver}
use Rattle.seq_enum.specs.Alphabet.{IsOver}
use Rattle.std.specs.Int.{w32, rotate_right}
use Rattle.std.proofs.Math.Nat.{div-le_self}
use Rattle.std.proofs.lemmas.Nat.{or_of_32}
use Rattle.rand_pcg.specs.Lcg.{Lcg}
use Rattle.rand_pcg.specs.Pcg.{pcg32}
use Rattle.window_exec.specs.State.{Seen}
use Rattle.fingerprints.specs.Seeded.{next_state, seeded_states, states_from}
use Rattle.rule_table.specs.Table.{Opened, Rule, IsState, IsInstr, IsOpened, IsRule, IsFamily, IsTable}
use Rattle.table_audit.specs.Shorter.{named_count, alphabet_registers, formula_against, sequences_below}
use Rattle.table_audit.specs.Acceptance.{StateTest, EntryVerdict, IsAccepted, lengths_below, width_of}
use Rattle.table_audit.proofs.Fitting.{are_over, ordered_of}
use Rattle.rule_table.specs.Header.{IsHeader}
use Rattle.table_learn.specs.Learnt.{Settings, Window, Learnt, TellsFirst, AreEarned, learnt_from, KeepsOrLowers, IsProvedBySolver, IsOpenBySolver, IsSpentSearch}
use Rattle.table_learn.specs.Fitness.{IsFit, without_told}
use Rattle.table_learn.specs.Searching.{EarnedFrom, width_at}
use Rattle.table_learn.specs.Progress.{Progress, table_with}
use Rattle.table_learn.proofs.Below.{one_below, below_among, width_within}
use Rattle.table_learn.proofs.Fit.{turn_all, fit_passes, fit_more, fit_without, no_longer}
use Rattle.table_learn.proofs.Steps.{push_cases}
use Rattle.table_learn.proofs.Registers.{more_registers, few_registers}
use Rattle.table_learn.proofs.Wider.{over_wider}
use Rattle.common_lemmas.proofs.Lists.{get_front}
use Rattle.seq_enum.proofs.Weighing.{All-from_slice_get}
use Rattle.rule_model.proofs.Table.{over_wider as over_more}
use Rattle.table_audit.proofs.Limits.{states_count}

-- ---- lists ----

map_at : {X Y : Type 0} (f : X → Y) (xs : List X) (i : ℕ) (y : Y) → slice_get (map f xs) i ≡ Some y → (x : X) × (slice_get xs i ≡ Some x) × (f x ≡ y)
map_at f [] i y h = absurd (cc)
map_at f (x ∷ xs) zero y h = let e : f x ≡ y = cc in (x, refl, e)
map_at f (x ∷ xs) (suc i) y h = map_at f xs i y h

take_at : {X : Type 0} (n : ℕ) (xs : List X) (i : ℕ) (x : X) → slice_get (take n xs) i ≡ Some x → slice_get xs i ≡ Some x
take_at zero xs i x h = absurd (cc)
take_at (suc n) [] i x h = absurd (cc)
take_at (suc n) (y ∷ xs) zero x h = h
take_at (suc n) (y ∷ xs) (suc i) x h = take_at n xs i x h

push_at : {X : Type 0} (xs : List X) (x : X) → slice_get (xs ++ x ∷ []) (length xs) ≡ Some x
push_at [] x = refl
push_at (y ∷ ys) x = push_at ys x

-- ---- one more window ----

kept_windows : (s : Settings) (found : List Seen) (rules : List Rule) → map learnt_from (map (without_told s found) rules) ≡ map learnt_from rules
kept_windows s found [] = refl
kept_windows s found (e ∷ es) = ap (λ ws. learnt_from e ∷ ws) (kept_windows s found es)

earned_later : (s : Settings) (windows : List Window) (w : Window) (states more : List Seen) → AreEarned s windows states → EarnedFrom s (length states) (states ++ more) w → AreEarned s (windows ++ w ∷ []) (states ++ more)
earned_later s windows w states more old new i x from at =
    elim (cases_lt i (length states)) [
      | inl k ↦
          let there : slice_get states i ≡ Some x = sym (get_front states more i k) ∙ at in
          let g = old i x from there in
          let within : g.place < length windows = slice_get_within windows g.place g.window g.is_window in
          record {
            place = g.place;
            window = g.window;
            is_window = get_front windows (w ∷ []) g.place within ∙ g.is_window;
            found = subst (λ before. TellsFirst s before x g.window) (sym (take-append-le i states more (omega (arith, k)))) g.found;
          }
      | inr k ↦ record { place = length windows; window = w; is_window = push_at windows w; found = new i x k at }
    ]

-- one more entry and the states found for it, after the open numbers that these distinguish were dropped
pub gain : (s : Settings) (windows : List Window) (w : Window) (states more : List Seen) (rules : List Rule) (e : Rule) → Progress s windows states rules → All IsState more → EarnedFrom s (length states) (states ++ more) w → learnt_from e ≡ w → IsFit s (states ++ more) states e
    → Progress s (windows ++ w ∷ []) (states ++ more) (map (without_told s more) (rules ++ e ∷ []))
gain s windows w states more rules e g valid earned same fit = record {
  long = let l : length (states ++ more) ≡ length states + length more = length-append states more in omega (arith, l, g.long);
  begins = take-append-le 64 states more g.long ∙ g.begins;
  valid = All-append IsState states more g.valid valid;
  matched = kept_windows s more (rules ++ e ∷ []) ∙ map-append learnt_from rules (e ∷ []) ∙ ap (λ ws. ws ++ learnt_from e ∷ []) g.matched ∙ ap (λ (v : Window). windows ++ v ∷ []) same;
  fits = λ n z at.
      let from = map_at (without_told s more) (rules ++ e ∷ []) n z at in
      subst (λ y. IsFit s (states ++ more) (states ++ more) y) from.2
      (elim (push_cases rules e n from.0 from.1) [
        | inl k ↦ fit_without s states more from.0 (fit_more s states more states from.0 (g.fits n from.0 k))
        | inr k ↦ subst (λ y. IsFit s (states ++ more) (states ++ more) (without_told s more y)) k.1 (fit_without s states more e fit)
      ]);
  earned = earned_later s windows w states more g.earned earned;
}

-- ---- before the first window ----

flags_low : (x : ℕ) → x % 16 < 16
flags_low x = omega arith

word_low : (x k : ℕ) → x < 2 ^ 32 → rotate_right w32 x k < 2 ^ 32
word_low x k h =
    let part : x / 2 ^ (k % 32) ≤ x = div-le_self x (2 ^ (k % 32)) in
    or_of_32 (x / 2 ^ (k % 32)) (x * 2 ^ ((32 - k % 32) % 32) % 2 ^ 32) (omega (arith, part, h)) (omega arith)

pcg_low : (g : Lcg) → (pcg32 g).0 < 2 ^ 32
pcg_low g = word_low _ _ (omega arith)

-- the states that a generator gives have four words and four flags
pub valid_from : (n : ℕ) (g : Lcg) → All IsState (states_from n g)
unfolding states_from
valid_from zero g = All-nil IsState
valid_from (suc n) g =
    let a = pcg32 g in
    let b = pcg32 a.1 in
    let c = pcg32 b.1 in
    let d = pcg32 c.1 in
    let one : IsState (next_state g).0 = record {
      four = refl;
      words = All-cons (λ w. w < 2 ^ 32) a.0 (b.0 ∷ c.0 ∷ d.0 ∷ []) (pcg_low g) (All-cons (λ w. w < 2 ^ 32) b.0 (c.0 ∷ d.0 ∷ []) (pcg_low a.1) (All-cons (λ w. w < 2 ^ 32) c.0 (d.0 ∷ []) (pcg_low b.1) (All-cons (λ w. w < 2 ^ 32) d.0 [] (pcg_low c.1) (All-nil (λ w. w < 2 ^ 32)))));
      flags = flags_low _;
    } in
    All-cons IsState (next_state g).0 (states_from n (next_state g).1) one (valid_from n (next_state g).1)

pub start : (s : Settings) (states : List Seen) → states ≡ seeded_states s.seed → Progress s [] states []
start s states e =
    let l : length states ≡ 64 = ap length e ∙ states_count 64 _ in
    record {
      long = omega (arith, l);
      begins = take_all 64 states (omega (arith, l)) ∙ e;
      valid = subst (All IsState) (sym e) (valid_from 64 _);
      matched = refl;
      fits = λ n z at. absurd (cc);
      earned = λ i x from at. let within : i < length states = slice_get_within states i x at in absurd (omega (arith, from, within, l));
    }

-- ---- the table ----

accepted : (s : Settings) (windows : List Window) (states : List Seen) (rules : List Rule) → Progress s windows states rules → width_of s ≤ 5000000 → IsAccepted (table_with s states rules)
accepted s windows states rules g narrow = (
  turn_all (StateTest (table_with s states rules)) 0 (seeded_states s.seed) (λ i x at.
      let there : slice_get states i ≡ Some x = take_at 64 states i x (subst (λ ys. slice_get ys i ≡ Some x) (sym g.begins) at) in
      subst (λ j. slice_get states j ≡ Some x) (sym (zero-add i)) there),
  (
    narrow,
    (
      turn_all (EntryVerdict (table_with s states rules)) 1 rules (λ i e at. fit_passes s states rules (1 + i) e (g.fits i e at)),
      tt,
    ),
  ),
)

pub learnt : (s : Settings) (windows : List Window) (states : List Seen) (rules : List Rule) → Progress s windows states rules → width_of s ≤ 5000000 → Learnt s windows (table_with s states rules)
learnt s windows states rules g narrow = record {
  header = refl;
  entries = g.matched;
  rights = All-from_slice_get (KeepsOrLowers s) rules (λ i e at. (g.fits i e at).keeps);
  states = g.earned;
  accepted = accepted s windows states rules g narrow;
  proofs = All-from_slice_get (IsProvedBySolver s) rules (λ i e at. (g.fits i e at).proved);
  logs = All-from_slice_get (λ e. All (IsOpenBySolver s e) e.opens) rules (λ i e at.
      All-from_slice_get (IsOpenBySolver s e) e.opens (λ j o here seq there.
      let name = (g.fits i e at).names j o here in
      let same : name.seq ≡ seq = one_below s e.left e.right e.right o.number name.seq seq name.below there in
      subst (λ z. IsSpentSearch s.budget (formula_against s e z) o.log) same name.log));
}

-- ---- it has a text ----

over_instrs : (is : List Instr) → AreOver 4 is → All IsInstr is
over_instrs [] over = All-nil IsInstr
over_instrs (i ∷ is) over = All-cons IsInstr i is (record { window = over.0; low = over.1 }) (over_instrs is over.2)

side_instrs : (pool : List ℕ) (k : ℕ) (is : List Instr) → k ≤ 4 → IsOver k pool is → All IsInstr is
side_instrs pool k is few over = over_instrs is (over_more k 4 is few (are_over k pool is (omega (arith, few)) over))

-- an open number is below the count of all sequences
pub low_name : (s : Settings) (tellers silent : List Seen) (e : Rule) (i : ℕ) (o : Opened) → IsFit s tellers silent e → slice_get e.opens i ≡ Some o → o.number < width_of s
low_name s tellers silent e i o f at =
    let name = f.names i o at in
    let among = below_among s e.left e.right o.number name.seq f.window.canonical.renamable.few (no_longer s e f.keeps) name.below in
    let low : o.number < width_at s (learnt_from e) = slice_get_within (sequences_below (alphabet_registers s e.left) s.pool (lengths_below s.costs (length e.left))) o.number name.seq among in
    let within = width_within s (learnt_from e) f.window in
    omega (arith, low, within)

valid_rule : (s : Settings) (states : List Seen) (e : Rule) → width_of s ≤ 5000000 → IsFit s states states e → IsRule e
valid_rule s states e narrow f =
    let k : ℕ = alphabet_registers s e.left in
    let few_named = (ordered_of e.left f.window.canonical).few in
    let n = no_longer s e f.keeps in
    let five : length e.left ≤ 5 = f.window.canonical.renamable.few in
    record {
      some = f.window.canonical.renamable.some;
      few_left = five;
      few_right = omega (arith, n, five);
      left = side_instrs s.pool k e.left (few_registers s e.left) (over_wider (named_count e.left) k s.pool e.left (more_registers s e.left few_named) f.window.over);
      right = side_instrs s.pool k e.right (few_registers s e.left) f.right;
      mask = f.mask;
      proof = f.lines;
      opens = All-from_slice_get IsOpened e.opens (λ i z at.
          let name = f.names i z at in
          let low = low_name s states states e i z f at in
          record { small = omega (arith, low, narrow); log = name.lines });
      ascending = f.ascending;
    }

pub valid : (s : Settings) (windows : List Window) (states : List Seen) (rules : List Rule) → IsHeader s → width_of s ≤ 5000000 → Progress s windows states rules → IsTable (table_with s states rules)
valid s windows states rules is narrow g = record {
  header = is;
  states = g.valid;
  rules = All-from_slice_get IsRule rules (λ i e at. valid_rule s states e narrow (g.fits i e at));
  families = All-nil IsFamily;
  none_before = λ early. refl;
}
