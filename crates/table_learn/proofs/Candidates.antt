-- The sequences below a window that the first listed state doesn't tell from it, in the order in which they are tried.
use Rattle.std.proofs.Common.{◌≡◌, ℕ, ◌+◌, ◌<◌, ◌≤◌, inl, inr, true, List, [], ◌∷◌, Contains, length, map, slice_get, get_or, Option, None, Some, sym, ◌∙◌, ap, subst, arith}
use Rattle.std.specs.Prelude.{Any, All, IfSome}
use Rattle.std.proofs.lemmas.Bool.{cases_lt}
use Rattle.std.proofs.lemmas.List.Elements.{Contains-get_or}
use Rattle.std.proofs.lemmas.Option.{slice_get_within, get_or_from_slice_get}
use Rattle.thumb_instr.specs.declared.instr.Instr.{Instr}
use Rattle.thumb_model.specs.Effect.{after_all}
use Rattle.window_exec.specs.declared.state.WState.{WState}
use Rattle.window_exec.specs.State.{values_of, seen, Differ}
use Rattle.seq_enum.specs.Alphabet.{ascends_from, alphabet, sequences, sequences_of}
use Rattle.seq_enum.specs.Costs.{AreCosts, weight_under}
use Rattle.bit_blast.specs.Exactness.{IsMask}
use Rattle.fingerprints.specs.declared.trials.Trial.{Trial}
use Rattle.fingerprints.specs.Outcomes as table
use Rattle.fingerprints.specs.Outcomes.{Extent, grown_to}
use Rattle.fingerprints.specs.Candidates.{TellsFrom}
use Rattle.fingerprints.specs.Candidates as found
use Rattle.fingerprints.proofs.Choosing.{told_or_candidate}
use Rattle.table_audit.specs.Shorter.{alphabet_registers, sequences_below}
use Rattle.table_audit.specs.Acceptance.{lengths_below}
use Rattle.table_audit.proofs.Numbering.{below_in, below_from}
use Rattle.table_learn.specs.Learnt.{Settings, Window}
use Rattle.table_learn.specs.Tellings.{told}
use Rattle.table_learn.specs.Orders.{AreInOrder, in_order, weight_at, weight_or_none}
use Rattle.table_learn.specs.Given.{IsWindow}
use Rattle.table_learn.specs.Searching.{AreCandidates}
use Rattle.table_learn.proofs.Below.{number_after, longest_in, longest_covers, longest_short, table_within}
use Rattle.table_learn.proofs.Costs.{few_numbers}
use Rattle.table_learn.proofs.Sorting.{order_ascending, order_by_weight, few_by_weight, from_by_weight, to_by_weight}
use Rattle.table_learn.proofs.Telling.{is_told}
use Rattle.thumb_model.proofs.Lists.{present_at}

pub table_below : (s : Settings) (w : Window) (k n : ℕ) (instrs : List Instr) → k ≡ alphabet_registers s w.seq → instrs ≡ alphabet k s.pool → table.sequences_below instrs n ≡ sequences_below (alphabet_registers s w.seq) s.pool n
unfolding table.sequences_below sequences_below
table_below s w k n instrs named is = ap (λ ls. table.sequences_below ls n) is ∙ ap (λ j. table.sequences_below (alphabet j s.pool) n) named

first_tells : (states : List WState) (w : Window) (seq : List Instr) (start : WState) (t : Trial) → IsMask w.mask → slice_get (map seen states) 0 ≡ Some (seen start) → t.start ≡ start → values_of t.end ≡ after_all w.seq (values_of start) → Any (TellsFrom seq w.mask) (t ∷ []) → told (map seen states) w.seq seq w.mask ≡ true
first_tells states w seq start t m at begins ends h =
    let low : 0 < length (map seen states) = slice_get_within (map seen states) 0 (seen start) at in
    let is : get_or (map seen states) 0 (seen start) ≡ seen start = get_or_from_slice_get (map seen states) 0 (seen start) (seen start) at in
    let only : h.0 ≡ 0 = (let l = h.2 in omega (arith, l)) in
    let same : t ≡ h.1 = ap (λ i. get_or (t ∷ []) i h.1) (sym only) ∙ h.3 in
    let here : TellsFrom seq w.mask t = subst (TellsFrom seq w.mask) (sym same) h.4 in
    let left : Differ (after_all w.seq (values_of start)) (after_all seq (values_of t.start)) w.mask = subst (λ v. Differ v (after_all seq (values_of t.start)) w.mask) ends here in
    let both : Differ (after_all w.seq (values_of start)) (after_all seq (values_of start)) w.mask = subst (λ (s : WState). Differ (after_all w.seq (values_of start)) (after_all seq (values_of s)) w.mask) begins left in
    is_told (map seen states) w.seq seq w.mask m (0, seen start, low, is, both)

-- ---- in the order in which they are tried ----

-- without costs a sequence of a higher number is no shorter
lengths_rise : (k : ℕ) (pool : List ℕ) (n a b : ℕ) → n ≤ 6 → a < b → b < length (sequences_below k pool n) → weight_at None (alphabet k pool) a ≤ weight_at None (alphabet k pool) b
lengths_rise k pool n a b six less low =
    let one = present_at (sequences_below k pool n) a (omega (arith, less, low)) in
    let two = present_at (sequences_below k pool n) b low in
    let here = below_in k pool n a one.0 six one.1 in
    let there = below_in k pool n b two.0 six two.1 in
    let mine : weight_at None (alphabet k pool) a ≡ length one.0 = ap (weight_or_none None) here.0 in
    let other : weight_at None (alphabet k pool) b ≡ length two.0 = ap (weight_or_none None) there.0 in
    elim (cases_lt (length two.0) (length one.0)) [
      | inl shorter ↦ (
          let before : b < length (sequences_below k pool (length one.0)) = slice_get_within (sequences_below k pool (length one.0)) b two.0 (below_from k pool (length one.0) b two.0 (let l = here.1 in omega (arith, l, six)) there.0 shorter) in
          let after = number_after k pool n a one.0 six one.1 in
          absurd (omega (arith, before, after, less))
          )
      | inr past ↦ omega (arith, mine, other, past)
    ]

-- the numbers are ascending, and are those of sequences with fewer than `count` instructions, where `count` suffices for all below the left side
record AreFound (costs : Option (List ℕ)) (k : ℕ) (pool : List ℕ) (left : List Instr) (count : ℕ) (numbers : List ℕ) : Type 0 where
  few : count ≤ 6
  short : count ≤ lengths_below costs (length left)
  ascending : ascends_from 0 numbers ≡ true
  within : (q : ℕ) → Contains numbers q → q < length (sequences_below k pool count)

ordered : (costs : Option (List ℕ)) (k : ℕ) (pool : List ℕ) (left : List Instr) (count : ℕ) (numbers : List ℕ) → AreFound costs k pool left count numbers → AreInOrder (weight_at costs (alphabet k pool)) (in_order costs (alphabet k pool) left numbers)
ordered None k pool left count numbers f = order_ascending (weight_at None (alphabet k pool)) 0 (length (sequences_below k pool count)) numbers (λ a b. lengths_rise k pool count a b f.few) f.ascending f.within
ordered (Some costs) k pool left count numbers f = order_by_weight (weight_at (Some costs) (alphabet k pool)) (weight_under (Some costs) left) 0 numbers f.ascending

few_ordered : (costs : Option (List ℕ)) (instrs left : List Instr) (numbers : List ℕ) → length (in_order costs instrs left numbers) ≤ length numbers
few_ordered None instrs left numbers = omega arith
few_ordered (Some costs) instrs left numbers = few_by_weight (weight_at (Some costs) instrs) (weight_under (Some costs) left) numbers

-- the number is that of a sequence that is no longer and weighs less than the left side
record IsLighter (costs : Option (List ℕ)) (k : ℕ) (pool : List ℕ) (left : List Instr) (q : ℕ) : Type 0 where
  seq : List Instr
  at : slice_get (sequences k pool) q ≡ Some seq
  no_longer : length seq ≤ length left
  lighter : weight_under costs seq < weight_under costs left

from_ordered : (costs : Option (List ℕ)) (k : ℕ) (pool : List ℕ) (left : List Instr) (count : ℕ) (numbers : List ℕ) (q : ℕ) → AreFound costs k pool left count numbers → Contains (in_order costs (alphabet k pool) left numbers) q → IsLighter costs k pool left q
from_ordered None k pool left count numbers q f c =
    let one = present_at (sequences_below k pool count) q (f.within q c) in
    let place = below_in k pool count q one.0 f.few one.1 in
    let short = f.short in
    record { seq = one.0; at = place.0; no_longer = omega (arith, place.1, short); lighter = omega (arith, place.1, short) }
from_ordered (Some costs) k pool left count numbers q f c =
    let from = from_by_weight (weight_at (Some costs) (alphabet k pool)) (weight_under (Some costs) left) numbers q c in
    let one = present_at (sequences_below k pool count) q (f.within q from.0) in
    let place = below_in k pool count q one.0 f.few one.1 in
    let short = f.short in
    let is : weight_at (Some costs) (alphabet k pool) q ≡ weight_under (Some costs) one.0 = ap (weight_or_none (Some costs)) place.0 in
    record { seq = one.0; at = place.0; no_longer = omega (arith, place.1, short); lighter = (let low = from.1 in omega (arith, low, is)) }

-- and the numbers of all such sequences stay in the list
to_ordered : (costs : Option (List ℕ)) (instrs left : List Instr) (numbers : List ℕ) (q : ℕ) (seq : List Instr) → Contains numbers q → slice_get (sequences_of instrs) q ≡ Some seq → weight_under costs seq < weight_under costs left
    → Contains (in_order costs instrs left numbers) q
to_ordered None instrs left numbers q seq c at less = c
to_ordered (Some costs) instrs left numbers q seq c at less =
    let is : weight_at (Some costs) instrs q ≡ weight_under (Some costs) seq = ap (weight_or_none (Some costs)) at in
    to_by_weight (weight_at (Some costs) instrs) (weight_under (Some costs) left) numbers q c (omega (arith, less, is))

-- the numbers are those of the table's sequences that the first state doesn't tell from the window
pub record AreLeft (s : Settings) (w : Window) (seqs : List (List Instr)) (instrs : List Instr) (t : Trial) (numbers : List ℕ) : Type 0 where
  pub window : IsWindow s w
  pub costs : IfSome s.costs AreCosts
  pub short : lengths_below s.costs (length w.seq) ≤ 5
  pub those : seqs ≡ sequences_below (alphabet_registers s w.seq) s.pool (longest_in s.costs w.seq + 1)
  pub alphabetic : instrs ≡ alphabet (alphabet_registers s w.seq) s.pool
  pub found : found.AreCandidates seqs (t ∷ []) w.mask numbers

pub are_left : (s : Settings) (w : Window) (k n : ℕ) (e later : Extent) (t : Trial) (numbers : List ℕ) → IsWindow s w → IfSome s.costs AreCosts → lengths_below s.costs (length w.seq) ≤ 5 → k ≡ alphabet_registers s w.seq → e.alphabet ≡ alphabet k s.pool
    → n ≡ longest_in s.costs w.seq → later ≡ grown_to n e → found.AreCandidates (table.sequences_below e.alphabet (n + 1)) (t ∷ []) w.mask numbers → AreLeft s w (table.sequences_below e.alphabet (n + 1)) later.alphabet t numbers
are_left s w k n e later t numbers window costs short named is long grown are = record {
  window = window;
  costs = costs;
  short = short;
  those = table_below s w k (n + 1) e.alphabet named is ∙ ap (λ m. sequences_below (alphabet_registers s w.seq) s.pool (m + 1)) long;
  alphabetic = ap (λ (x : Extent). x.alphabet) grown ∙ is ∙ ap (λ j. alphabet j s.pool) named;
  found = are;
}

found_so : (s : Settings) (w : Window) (seqs : List (List Instr)) (instrs : List Instr) (t : Trial) (numbers : List ℕ) → AreLeft s w seqs instrs t numbers
    → AreFound s.costs (alphabet_registers s w.seq) s.pool w.seq (longest_in s.costs w.seq + 1) numbers
found_so s w seqs instrs t numbers l =
    let short = longest_short s.costs w.seq l.window.canonical.renamable.some in
    let five = l.short in
    record { few = omega (arith, short, five); short = short; ascending = l.found.ascending; within = λ q c. subst (λ ss. q < length ss) l.those (l.found.within q c) }

-- each number is that of a sequence
pub all_there : (s : Settings) (w : Window) (seqs : List (List Instr)) (instrs : List Instr) (t : Trial) (numbers : List ℕ) → AreLeft s w seqs instrs t numbers → All (λ q. q < length (sequences_of instrs)) numbers
all_there s w seqs instrs t numbers l j d low =
    let k : ℕ = alphabet_registers s w.seq in
    let f = found_so s w seqs instrs t numbers l in
    let count : ℕ = longest_in s.costs w.seq + 1 in
    let q : ℕ = get_or numbers j d in
    let one = present_at (sequences_below k s.pool count) q (f.within q (Contains-get_or numbers j d low)) in
    let place = below_in k s.pool count q one.0 f.few one.1 in
    slice_get_within (sequences_of instrs) q one.0 (ap (λ ls. slice_get (sequences_of ls) q) l.alphabetic ∙ place.0)

pub candidates_are : (s : Settings) (states : List WState) (w : Window) (seqs : List (List Instr)) (instrs : List Instr) (start : WState) (t : Trial) (numbers order : List ℕ) → IsMask w.mask → AreLeft s w seqs instrs t numbers
    → slice_get (map seen states) 0 ≡ Some (seen start) → t.start ≡ start → values_of t.end ≡ after_all w.seq (values_of start) → order ≡ in_order s.costs instrs w.seq numbers → AreCandidates s (map seen states) w order
candidates_are s states w seqs instrs start t numbers order m l at begins ends o =
    let k : ℕ = alphabet_registers s w.seq in
    let count : ℕ = longest_in s.costs w.seq + 1 in
    let mine : order ≡ in_order s.costs (alphabet k s.pool) w.seq numbers = o ∙ ap (λ ls. in_order s.costs ls w.seq numbers) l.alphabetic in
    let f = found_so s w seqs instrs t numbers l in
    let fewer : 0 + length numbers ≤ length (sequences_below k s.pool count) = few_numbers 0 (length (sequences_below k s.pool count)) numbers (omega arith) f.ascending (λ j d low. f.within (get_or numbers j d) (Contains-get_or numbers j d low)) in
    subst (AreCandidates s (map seen states) w) (sym mine) (record {
      ordered = ordered s.costs k s.pool w.seq count numbers f;
      few = (let few = few_ordered s.costs (alphabet k s.pool) w.seq numbers in let within = table_within s w count l.window f.short in omega (arith, few, fewer, within));
      each = λ j d low.
          let q : ℕ = get_or (in_order s.costs (alphabet k s.pool) w.seq numbers) j d in
          let lighter = from_ordered s.costs k s.pool w.seq count numbers q f (Contains-get_or (in_order s.costs (alphabet k s.pool) w.seq numbers) j d low) in
          (lighter.seq, record { at = lighter.at; no_longer = lighter.no_longer; lighter = lighter.lighter });
      others = λ q seq below.
          let there : slice_get (sequences_below k s.pool count) q ≡ Some seq = below_from k s.pool count q seq f.few below.at (longest_covers s.costs w.seq seq l.costs below.no_longer below.lighter) in
          elim (told_or_candidate seqs (t ∷ []) w.mask numbers m l.found q seq (subst (λ ss. slice_get ss q ≡ Some seq) (sym l.those) there)) [
            | inl has ↦ inl (to_ordered s.costs (alphabet k s.pool) w.seq numbers q seq has below.at below.lighter)
            | inr tells ↦ inr (first_tells states w seq start t m at begins ends tells)
          ];
    })
