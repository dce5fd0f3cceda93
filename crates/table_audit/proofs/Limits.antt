-- What follows from an accepted table's states and width: it has at least 64 states, and the sequences that are tried have at most four instructions.
use Rattle.std.proofs.Common.{◌≡◌, ℕ, zero, suc, ◌+◌, ◌*◌, ◌^◌, ◌<◌, ◌≤◌, inl, inr, List, Option, Some, None, length, min, slice_get, refl, ap, arith}
use Rattle.std.proofs.Math.Nat.{one-le-mul, pow-le-pow_left}
use Rattle.std.proofs.lemmas.Bool.{cases_lt}
use Rattle.std.proofs.lemmas.Option.{slice_get_within}
use Rattle.rand_pcg.specs.Lcg.{Lcg}
use Rattle.fingerprints.specs.Seeded.{states_from, seeded_states}
use Rattle.seq_enum.specs.Alphabet.{alphabet}
use Rattle.seq_enum.specs.Places.{sum_below}
use Rattle.seq_enum.proofs.Mnemonics.{size_formula}
use Rattle.rule_table.specs.declared.header.Field.TheVariants.{Regs, Left}
use Rattle.rule_table.specs.Table.{Table, IsTable}
use Rattle.lrat_check.proofs.Turns.{turn_each}
use Rattle.table_audit.specs.Shorter.{sequences_below}
use Rattle.table_audit.specs.Acceptance.{StateTest, StatesVerdict, lengths_below, WideVerdict}
use Rattle.table_audit.proofs.Numbering.{length-sequences_below}
use Rattle.thumb_model.proofs.Lists.{present_at}

-- ---- states ----

pub states_count : (n : ℕ) (g : Lcg) → length (states_from n g) ≡ n
unfolding states_from
states_count zero g = refl
states_count (suc n) g = ap suc (states_count n _)

pub many_states : (t : Table) → StatesVerdict t None → 64 ≤ length t.states
many_states t p =
    let count : length (seeded_states t.header.seed) ≡ 64 = states_count 64 _ in
    let last = present_at (seeded_states t.header.seed) 63 (omega (arith, count)) in
    let there : slice_get t.states 63 ≡ Some last.0 = turn_each (StateTest t) 0 (seeded_states t.header.seed) 63 last.0 p last.1 in
    let within = slice_get_within t.states 63 last.0 there in
    omega (arith, within)

-- ---- width ----

-- 28 kinds of instructions take no number, so that the alphabet has at least 28 instructions, whatever the pool
least_size : (k : ℕ) (pool : List ℕ) → 0 < k → k ≤ 8 → 28 ≤ length (alphabet k pool)
least_size k pool some few =
    let two : 1 ≤ k * k = one-le-mul some some in
    let three : 1 ≤ k * k * k = one-le-mul two some in
    omega (arith, size_formula k pool few, two, three)

many_words : (k : ℕ) (pool : List ℕ) → 0 < k → k ≤ 8 → 5000000 < length (sequences_below k pool 6)
unfolding sum_below
many_words k pool some few =
    let power : 28 ^ 5 ≤ length (alphabet k pool) ^ 5 = pow-le-pow_left (least_size k pool some few) 5 in
    omega (arith, length-sequences_below k pool 6, power)

-- where an entry has to be told from at most 5,000,000 sequences, these have fewer than five instructions
pub short_below : (costs : Option (List ℕ)) (k : ℕ) (pool : List ℕ) (left : ℕ) → 0 < k → k ≤ 8 → left ≤ 5 → length (sequences_below k pool (lengths_below costs left)) ≤ 5000000 → lengths_below costs left ≤ 5
short_below None k pool left some few short narrow = short
short_below (Some costs) k pool left some few short narrow = elim (cases_lt left 5) [
  | inl less ↦ omega (arith, less)
  | inr five ↦ (
      let six : left + 1 ≡ 6 = omega (arith, five, short) in
      let size : length (sequences_below k pool (left + 1)) ≡ length (sequences_below k pool 6) = ap (λ n. length (sequences_below k pool n)) six in
      absurd (omega (arith, many_words k pool some few, narrow, size))
      )
]

pub header_short : (t : Table) → IsTable t → WideVerdict t None → lengths_below t.header.costs t.header.left ≤ 5
header_short t valid narrow =
    let regs = (valid.header.numbers Regs).0 in
    let left = (valid.header.numbers Left).1 in
    short_below t.header.costs (min (t.header.regs + t.header.scratch) 4) t.header.pool t.header.left (omega (arith, regs)) (omega arith) left narrow

-- a left side that is no longer has no longer ones either
pub lengths_within : (costs : Option (List ℕ)) (length left : ℕ) → length ≤ left → lengths_below costs left ≤ 5 → lengths_below costs length ≤ 5
lengths_within None length left h k = omega (arith, h, k)
lengths_within (Some costs) length left h k = omega (arith, h, k)
