-- The sequences below a side (shorter, or with costs cheaper and no longer), by their numbers.
use Rattle.std.proofs.Common.{◌≡◌, ℕ, ◌+◌, ◌-◌, ◌^◌, ◌<◌, ◌≤◌, inl, inr, true, List, Option, Some, None, IfSome, length, min, slice_get, refl, sym, ◌∙◌, ap, subst, arith}
use Rattle.std.specs.Option.{is_some}
use Rattle.std.proofs.lemmas.Bool.{cases_lt}
use Rattle.std.proofs.lemmas.Option.{same_Some}
use Rattle.thumb_instr.specs.declared.instr.Instr.{Instr}
use Rattle.seq_enum.specs.Places.{sum_below}
use Rattle.seq_enum.specs.Alphabet.{alphabet}
use Rattle.seq_enum.specs.Costs.{AreCosts, weight_under}
use Rattle.table_audit.specs.Shorter.{alphabet_registers, with_scratch, IsBelow, sequences_below, below_at}
use Rattle.table_audit.specs.Acceptance.{lengths_below, width_of}
use Rattle.table_audit.proofs.Below.{below_found, length_within}
use Rattle.table_audit.proofs.Numbering.{below_in, below_from, length-sequences_below}
use Rattle.table_learn.specs.Learnt.{Settings, Window}
use Rattle.table_learn.specs.Given.{IsWindow}
use Rattle.table_learn.specs.Searching.{width_at}
use Rattle.table_learn.proofs.Monotone.{least_instrs, sum_more, shorter_more}
use Rattle.table_learn.proofs.Registers.{few_registers, some_registers, narrow_registers}
use Rattle.thumb_model.proofs.Lists.{present_at}

-- ---- the sequence of a number ----

-- a number has at most one sequence, whichever side that is below
pub one_below : (s : Settings) (left side other : List Instr) (number : ℕ) (seq more : List Instr) → IsBelow s left side number seq → IsBelow s left other number more → seq ≡ more
one_below s left side other number seq more b c = same_Some seq more (sym b.at ∙ c.at)

-- if the test finds a sequence, it is below the side
pub some_below : (s : Settings) (left side : List Instr) (number : ℕ) → is_some (below_at s left side number) ≡ true → (seq : List Instr) × IsBelow s left side number seq
some_below s left side number h = found (below_at s left side number) refl h
  where
    found : (o : Option (List Instr)) → below_at s left side number ≡ o → is_some o ≡ true → (seq : List Instr) × IsBelow s left side number seq
    found None at k = absurd (cc)
    found (Some seq) at k = (seq, below_found s left side number seq at)

-- what is below a side that is below the left side is below the left side
pub below_left : (s : Settings) (left side : List Instr) (number other : ℕ) (seq : List Instr) → IsBelow s left left other side → IsBelow s left side number seq → IsBelow s left left number seq
below_left s left side number other seq lower b = record { at = b.at; no_longer = b.no_longer; lighter = (let c = b.lighter in let d = lower.lighter in omega (arith, c, d)) }

-- ---- the order of numbers ----

-- all sequences shorter than a given one have lower numbers
pub number_after : (k : ℕ) (pool : List ℕ) (m n : ℕ) (s : List Instr) → m ≤ 6 → slice_get (sequences_below k pool m) n ≡ Some s → length (sequences_below k pool (length s)) ≤ n
number_after k pool m n s six at =
    let w = below_in k pool m n s six at in
    elim (cases_lt n (length (sequences_below k pool (length s)))) [
      | inl low ↦ (
          let one = present_at (sequences_below k pool (length s)) n low in
          let there = below_in k pool (length s) n one.0 (omega (arith, w.1, six)) one.1 in
          let same : one.0 ≡ s = same_Some one.0 s (sym there.0 ∙ w.0) in
          let l : length one.0 ≡ length s = ap length same in
          absurd (omega (arith, there.1, l))
          )
      | inr past ↦ past
    ]

-- ---- how many there are ----

pub few_lengths : (costs : Option (List ℕ)) (n : ℕ) → n ≤ 5 → lengths_below costs n ≤ 6
few_lengths None n h = omega (arith, h)
few_lengths (Some costs) n h = omega (arith, h)

more_lengths : (costs : Option (List ℕ)) (m n : ℕ) → m ≤ n → lengths_below costs m ≤ lengths_below costs n
more_lengths None m n h = h
more_lengths (Some costs) m n h = omega (arith, h)

light_length : (costs : Option (List ℕ)) (left side seq : List Instr) → length side ≤ length left → length seq ≤ length left → weight_under costs seq < weight_under costs side → length seq < lengths_below costs (length left)
light_length None left side seq h k less = omega (arith, h, less)
light_length (Some costs) left side seq h k less = omega (arith, k)

-- a sequence below a side is among those that are no longer than the left side, or without costs shorter
pub below_among : (s : Settings) (left side : List Instr) (number : ℕ) (seq : List Instr) → length left ≤ 5 → length side ≤ length left → IsBelow s left side number seq
    → slice_get (sequences_below (alphabet_registers s left) s.pool (lengths_below s.costs (length left))) number ≡ Some seq
below_among s left side number seq five no_longer b =
    below_from (alphabet_registers s left) s.pool (lengths_below s.costs (length left)) number seq (few_lengths s.costs (length left) five) b.at (light_length s.costs left side seq no_longer b.no_longer b.lighter)

-- the most instructions of a sequence below a left side, as the length of the table that has all of these
abbrev pub longest_in : Option (List ℕ) → (left : List Instr) → ℕ
longest_in costs left = min (length left) (weight_under costs left - 1)

pub longest_covers : (costs : Option (List ℕ)) (left seq : List Instr) → IfSome costs AreCosts → length seq ≤ length left → weight_under costs seq < weight_under costs left → length seq < longest_in costs left + 1
longest_covers costs left seq are h less = let long = length_within costs seq are in omega (arith, h, less, long)

pub longest_short : (costs : Option (List ℕ)) (left : List Instr) → 0 < length left → longest_in costs left + 1 ≤ lengths_below costs (length left)
longest_short None left some = omega (arith, some)
longest_short (Some costs) left some = omega (arith, some)

pub table_within : (s : Settings) (w : Window) (n : ℕ) → IsWindow s w → n ≤ lengths_below s.costs (length w.seq) → length (sequences_below (alphabet_registers s w.seq) s.pool n) ≤ width_at s w
table_within s w n i h = shorter_more (alphabet_registers s w.seq) (alphabet_registers s w.seq) s.pool n (lengths_below s.costs (length w.seq)) (some_registers s w i) (omega arith) (few_registers s w.seq) h

pub width_within : (s : Settings) (w : Window) → IsWindow s w → width_at s w ≤ width_of s
width_within s w i =
    shorter_more (alphabet_registers s w.seq) (with_scratch s s.regs) s.pool (lengths_below s.costs (length w.seq)) (lengths_below s.costs s.left)
    (some_registers s w i) (narrow_registers s w i) (omega arith) (more_lengths s.costs (length w.seq) s.left i.short)

-- ---- the length of a window that isn't too wide ----

wide_sum : 5000000 < sum_below (λ i. 26 ^ i) 6
unfolding sum_below
wide_sum = omega arith

five_wide : (k : ℕ) (pool : List ℕ) → 0 < k → k ≤ 4 → 5000000 < length (sequences_below k pool 6)
five_wide k pool some few =
    let e = length-sequences_below k pool 6 in
    let size = least_instrs k pool some few in
    let wide : sum_below (λ i. 26 ^ i) 6 ≤ sum_below (λ i. length (alphabet k pool) ^ i) 6 = sum_more 26 (length (alphabet k pool)) 6 size in
    omega (arith, e, wide, wide_sum)

-- with costs that is at most four, since there are more than 5,000,000 sequences of five
pub narrow_lengths : (s : Settings) (w : Window) → IsWindow s w → s.left ≤ 5 → width_of s ≤ 5000000 → lengths_below s.costs (length w.seq) ≤ 5
narrow_lengths s w i few narrow = bound s.costs refl
  where
    bound : (costs : Option (List ℕ)) → s.costs ≡ costs → lengths_below costs (length w.seq) ≤ 5
    bound None e = (let short = i.short in omega (arith, short, few))
    bound (Some costs) e = elim (cases_lt (length w.seq) 5) [
      | inl low ↦ omega (arith, low)
      | inr five ↦ (
          let k : ℕ = alphabet_registers s w.seq in
          let short = i.short in
          let six : lengths_below s.costs (length w.seq) ≡ 6 = ap (λ c. lengths_below c (length w.seq)) e ∙ (let n : length w.seq + 1 ≡ 6 = omega (arith, five, short, few) in n) in
          let wide : 5000000 < width_at s w = subst (λ n. 5000000 < length (sequences_below k s.pool n)) (sym six) (five_wide k s.pool (some_registers s w i) (few_registers s w.seq)) in
          let within = width_within s w i in
          absurd (omega (arith, wide, within, narrow))
          )
    ]
