-- The numbers that are tried have each untold sequence among them, and the table of outcomes has no more than 128 sequences for each that is below the right side.
use Rattle.std.proofs.Common.{◌≡◌, ℕ, zero, suc, ◌+◌, ◌-◌, ◌*◌, ◌<◌, ◌≤◌, ◌⊎◌, inl, inr, true, Bool, List, [], ◌∷◌, Option, Some, None, IfSome, filter, length, min, slice_get, refl, sym, ◌∙◌, ap, subst, arith, lt-ltb, length-append}
use Rattle.std.proofs.Math.Nat.{mul-le-mul_left}
use Rattle.std.proofs.lemmas.List.Elements.{filter-append}
use Rattle.thumb_instr.specs.declared.instr.Instr.{Instr}
use Rattle.thumb_instr.specs.Items.{has, is_in_masks}
use Rattle.seq_enum.specs.Costs.{AreCosts, weight_under}
use Rattle.seq_enum.specs.Alphabet.{alphabet}
use Rattle.fingerprints.specs.declared.trials.Trial.{Trial}
use Rattle.fingerprints.specs.Trials.{AreTrials}
use Rattle.fingerprints.specs.Outcomes as table
use Rattle.fingerprints.specs.Outcomes.{Extent}
use Rattle.fingerprints.specs.Candidates.{AreCandidates, added_for}
use Rattle.fingerprints.proofs.Choosing.{told_or_candidate, few_added}
use Rattle.fingerprints.proofs.Growing.{below_more}
use Rattle.rule_table.specs.Header.{Header}
use Rattle.rule_table.specs.Table.{Rule, Table}
use Rattle.table_audit.specs.Shorter.{alphabet_registers, sequences_below, weight_in, IsBelow, is_lighter, below}
use Rattle.table_audit.specs.Lighter.{AreLighter, IsWithin, CoverUntold}
use Rattle.table_audit.specs.Acceptance.{lengths_below}
use Rattle.table_audit.specs.Costs.{runs_cost}
use Rattle.table_audit.proofs.Numbering.{below_in, below_from}
use Rattle.table_audit.proofs.Below.{length_within, some_below}
use Rattle.table_audit.proofs.Settling.{below_same}
use Rattle.table_audit.proofs.Tellings.{told_is}
use Rattle.thumb_model.proofs.Lists.{present_at}

-- ---- how long the sequences below are ----

-- with costs no longer than the left side, which has at most four instructions then, and without them shorter than the right side
pub short_enough : (costs : Option (List ℕ)) (left right : List Instr) → lengths_below costs (length left) ≤ 5 → length right ≤ length left → 0 < length right → min (length left) (weight_under costs right - 1) ≤ 4
short_enough None left right short few some = omega arith
short_enough (Some costs) left right short few some = omega arith

pub right_weighs : (costs : Option (List ℕ)) (right : List Instr) → IfSome costs AreCosts → 0 < length right → 0 < weight_under costs right
right_weighs costs right valid some = omega (arith, length_within costs right valid, some)

-- a sequence below the right side is no longer than the longest that are tried
below_short : (h : Header) (left right : List Instr) (q : ℕ) (seq : List Instr) → IfSome h.costs AreCosts → IsBelow h left right q seq → length seq ≤ min (length left) (weight_in h right - 1)
below_short h left right q seq valid b = omega (arith, length_within h.costs seq valid, b.no_longer, b.lighter)

-- ---- each untold one is among the numbers ----

-- the table's instructions are the entry's alphabet, and its sequences as long as those that are tried
pub record IsTried (t : Table) (e : Rule) (instrs : List Instr) (longest : ℕ) : Type 0 where
  pub costs : IfSome t.header.costs AreCosts
  pub few : length e.left ≤ 5
  pub is_alphabet : instrs ≡ alphabet (alphabet_registers t.header e.left) t.header.pool
  pub is_longest : longest ≡ min (length e.left) (weight_in t.header e.right - 1)

module _ (t : Table) (e : Rule) (instrs : List Instr) (longest : ℕ) (tried : IsTried t e instrs longest) where
  abbrev k : ℕ
  k = alphabet_registers t.header e.left

  same : table.sequences_below instrs (longest + 1) ≡ sequences_below k t.header.pool (longest + 1)
  same = below_same k (longest + 1) t.header.pool instrs (longest + 1) tried.is_alphabet refl

  short : longest + 1 ≤ 6
  short = omega (arith, tried.is_longest, tried.few)

  -- a number below the count is that of a sequence no longer than the left side
  within_tried : (q : ℕ) → q < length (table.sequences_below instrs (longest + 1)) → IsWithin t e q
  within_tried q low =
      let one = present_at (sequences_below k t.header.pool (longest + 1)) q (subst (λ ws. q < length ws) same low) in
      let in_all = below_in k t.header.pool (longest + 1) q one.0 short one.1 in
      record { seq = one.0; at = in_all.0; no_longer = omega (arith, in_all.1, tried.is_longest) }

  -- a sequence below the right side stands in the table at its number
  below_there : (q : ℕ) (seq : List Instr) → IsBelow t.header e.left e.right q seq → slice_get (table.sequences_below instrs (longest + 1)) q ≡ Some seq
  below_there q seq b =
      let l = below_short t.header e.left e.right q seq tried.costs b in
      ap (λ ws. slice_get ws q) same ∙ below_from k t.header.pool (longest + 1) q seq short b.at (omega (arith, l, tried.is_longest))

  pub few_cover : (limit : ℕ) (numbers : List ℕ) → limit ≡ weight_in t.header e.right → AreLighter t.header.costs limit (table.sequences_below instrs (longest + 1)) numbers → CoverUntold t e numbers
  few_cover limit numbers is are = record {
    ascending = are.ascending;
    within = λ q c. within_tried q (are.within q c);
    untold = λ q seq u. (are.each q seq (below_there q seq u.below)).1 (lt-ltb (weight_in t.header seq) limit (omega (arith, is, u.below.lighter)));
  }

  pub candidates_cover : (trials : List Trial) (numbers : List ℕ) → ((x : ℕ) → has e.mask x ≡ true → is_in_masks x ≡ true) → AreTrials e.left t.states trials
      → AreCandidates (table.sequences_below instrs (longest + 1)) trials e.mask numbers → CoverUntold t e numbers
  candidates_cover trials numbers in_masks trial are = record {
    ascending = are.ascending;
    within = λ q c. within_tried q (are.within q c);
    untold = λ q seq u. elim (told_or_candidate (table.sequences_below instrs (longest + 1)) trials e.mask numbers in_masks are q seq (below_there q seq u.below)) [
      | inl has ↦ has
      | inr tells ↦ absurd (u.untold ((told_is e.left t.states trials seq e.mask trial).0 tells))
    ];
  }

  -- the table gets no more sequences than 128 for each that is below the right side
  pub few_rows : (trials : List Trial) (x : Extent) (limit : ℕ) → x.alphabet ≡ instrs → limit ≡ weight_in t.header e.right
      → length (table.sequences_below instrs (longest + 1)) ≤ 128 * length (filter (is_lighter t.header.costs limit) (table.sequences_below instrs (longest + 1)))
      → added_for trials longest x ≤ 128 * length (below t.header e.left e.right)
  unfolding below
  few_rows trials x limit e_instrs is enough =
      let rows : added_for trials longest x ≤ length (table.sequences_below instrs (longest + 1)) = added_few trials in
      let kept : length (filter (is_lighter t.header.costs limit) (table.sequences_below instrs (longest + 1))) ≤ length (filter (is_lighter t.header.costs limit) (table.sequences_below instrs (length e.left + 1))) =
      filter_longer (is_lighter t.header.costs limit) instrs (longest + 1) (length e.left + 1) (omega (arith, tried.is_longest)) in
      let all : table.sequences_below instrs (length e.left + 1) ≡ sequences_below k t.header.pool (length e.left + 1) = below_same k (length e.left + 1) t.header.pool instrs (length e.left + 1) tried.is_alphabet refl in
      let size : length (filter (is_lighter t.header.costs limit) (table.sequences_below instrs (length e.left + 1))) ≡ length (filter (is_lighter t.header.costs (weight_in t.header e.right)) (sequences_below k t.header.pool (length e.left + 1))) =
      ap (λ ws. length (filter (is_lighter t.header.costs limit) ws)) all ∙ ap (λ m. length (filter (is_lighter t.header.costs m) (sequences_below k t.header.pool (length e.left + 1)))) is in
      omega (arith, rows, enough, kept, size)
    where
      added_few : (trials : List Trial) → added_for trials longest x ≤ length (table.sequences_below instrs (longest + 1))
      added_few [] = omega arith
      added_few (u ∷ us) = (let most = few_added x longest in let size : length (table.sequences_below x.alphabet (longest + 1)) ≡ length (table.sequences_below instrs (longest + 1)) = ap (λ ls. length (table.sequences_below ls (longest + 1))) e_instrs in omega (arith, most, size))

      filter_more : (p : List Instr → Bool) (instrs : List Instr) (m d : ℕ) → length (filter p (table.sequences_below instrs m)) ≤ length (filter p (table.sequences_below instrs (m + d)))
      filter_more p instrs m zero = let same : m + 0 ≡ m = omega arith in rw same (omega arith)
      filter_more p instrs m (suc d) =
          let next : m + suc d ≡ m + d + 1 = omega arith in
          let split = ap (λ ws. length (filter p ws)) (below_more instrs (m + d)) ∙ ap (λ ws. length ws) (filter-append p (table.sequences_below instrs (m + d)) _) ∙ length-append (filter p (table.sequences_below instrs (m + d))) _ in
          rw next (omega (arith, split, filter_more p instrs m d))

      filter_longer : (p : List Instr → Bool) (instrs : List Instr) (m n : ℕ) → m ≤ n → length (filter p (table.sequences_below instrs m)) ≤ length (filter p (table.sequences_below instrs n))
      filter_longer p instrs m n h = let e : m + (n - m) ≡ n = omega (arith, h) in subst (λ j. length (filter p (table.sequences_below instrs m)) ≤ length (filter p (table.sequences_below instrs j))) e (filter_more p instrs m (n - m))

-- ---- steps ----

-- the runs for one entry: both sides once, the table, each sequence below the right side, and each number named open
pub runs_within : (count states left right a b c d : ℕ) → 64 ≤ states → (count ≡ 0) ⊎ (0 < right) → b ≤ a + states * left → c ≤ b + count * (128 + states * left) → d ≤ c + count * (states * left)
    → d ≤ a + (2 * count + 1) * (states * (left + right))
runs_within count states left right a b c d many some h j k =
    let table : count * 128 ≤ 2 * (count * (states * right)) = pays some in
    omega (arith, h, j, k, table)
  where
    pays : (count ≡ 0) ⊎ (0 < right) → count * 128 ≤ 2 * (count * (states * right))
    pays (inl none) = omega (arith, ap (λ n. n * 128) none)
    pays (inr one) =
        let a : states * 1 ≤ states * right = mul-le-mul_left states one in
        let b : count * 64 ≤ count * (states * right) = mul-le-mul_left count (omega (arith, many, a)) in
        omega (arith, b)

-- with the logs of the open numbers, where the states are counted as the code has them
pub entry_within : (t : Table) (e : Rule) (states a b c d logs : ℕ) → states ≡ length t.states → 64 ≤ states → b ≤ a + states * length e.left
    → c ≤ b + length (below t.header e.left e.right) * (128 + states * length e.left) → d ≤ c + (length (below t.header e.left e.right) * (length t.states * length e.left) + logs)
    → d ≤ a + (runs_cost t e + logs)
entry_within t e states a b c d logs is many h j k =
    let count = length (below t.header e.left e.right) in
    let runs : count * (length t.states * length e.left) ≡ count * (states * length e.left) = ap (λ n. count * (n * length e.left)) (sym is) in
    let bound : (2 * count + 1) * (states * (length e.left + length e.right)) ≡ (2 * count + 1) * (length t.states * (length e.left + length e.right)) = ap (λ n. (2 * count + 1) * (n * (length e.left + length e.right))) is in
    let all : c + count * (states * length e.left) ≤ a + (2 * count + 1) * (states * (length e.left + length e.right)) =
    runs_within count states (length e.left) (length e.right) a b c (c + count * (states * length e.left)) many (some_below t.header e.left e.right) h j (omega arith) in
    omega (arith, k, runs, bound, all)
