-- The number of sequences is monotone in the numbers of registers and instructions.
use Rattle.std.proofs.Common.{◌≡◌, ℕ, zero, suc, ◌+◌, ◌-◌, ◌*◌, ◌^◌, ◌<◌, ◌≤◌, List, length, sym, subst, arith}
use Rattle.std.proofs.Math.Nat.{le_refl, le_trans, mul-le-mul, pow-le-pow_left}
use Rattle.seq_enum.specs.Alphabet.{those_within, alphabet}
use Rattle.seq_enum.specs.Places.{sum_below}
use Rattle.seq_enum.proofs.Mnemonics.{size_formula}
use Rattle.table_audit.specs.Shorter.{sequences_below}
use Rattle.table_audit.proofs.Numbering.{length-sequences_below}

size_at : ℕ → ℕ → ℕ → ℕ → ℕ → ℕ
size_at k a b c d = 2 * (k * k * k) + 2 * (k * ((k - 1) * a)) + 4 * (k * b) + (k * (k * c) + 2 * (k * (k * d))) + 26 * (k * k)

one_two : (a b c d : ℕ) → size_at 1 a b c d ≤ size_at 2 a b c d
unfolding size_at
one_two a b c d = omega arith

two_three : (a b c d : ℕ) → size_at 2 a b c d ≤ size_at 3 a b c d
unfolding size_at
two_three a b c d = omega arith

three_four : (a b c d : ℕ) → size_at 3 a b c d ≤ size_at 4 a b c d
unfolding size_at
three_four a b c d = omega arith

size_more : (a b c d k m : ℕ) → 0 < k → k ≤ m → m ≤ 4 → size_at k a b c d ≤ size_at m a b c d
size_more a b c d zero m p h f = absurd (omega (arith, p))
size_more a b c d (suc zero) zero p h f = absurd (omega (arith, h))
size_more a b c d (suc zero) (suc zero) p h f = le_refl _
size_more a b c d (suc zero) (suc (suc zero)) p h f = one_two a b c d
size_more a b c d (suc zero) (suc (suc (suc zero))) p h f = le_trans (one_two a b c d) (two_three a b c d)
size_more a b c d (suc zero) (suc (suc (suc (suc zero)))) p h f = le_trans (one_two a b c d) (le_trans (two_three a b c d) (three_four a b c d))
size_more a b c d (suc zero) (suc (suc (suc (suc (suc m))))) p h f = absurd (omega (arith, f))
size_more a b c d (suc (suc zero)) zero p h f = absurd (omega (arith, h))
size_more a b c d (suc (suc zero)) (suc zero) p h f = absurd (omega (arith, h))
size_more a b c d (suc (suc zero)) (suc (suc zero)) p h f = le_refl _
size_more a b c d (suc (suc zero)) (suc (suc (suc zero))) p h f = two_three a b c d
size_more a b c d (suc (suc zero)) (suc (suc (suc (suc zero)))) p h f = le_trans (two_three a b c d) (three_four a b c d)
size_more a b c d (suc (suc zero)) (suc (suc (suc (suc (suc m))))) p h f = absurd (omega (arith, f))
size_more a b c d (suc (suc (suc zero))) zero p h f = absurd (omega (arith, h))
size_more a b c d (suc (suc (suc zero))) (suc zero) p h f = absurd (omega (arith, h))
size_more a b c d (suc (suc (suc zero))) (suc (suc zero)) p h f = absurd (omega (arith, h))
size_more a b c d (suc (suc (suc zero))) (suc (suc (suc zero))) p h f = le_refl _
size_more a b c d (suc (suc (suc zero))) (suc (suc (suc (suc zero)))) p h f = three_four a b c d
size_more a b c d (suc (suc (suc zero))) (suc (suc (suc (suc (suc m))))) p h f = absurd (omega (arith, f))
size_more a b c d (suc (suc (suc (suc k)))) m p h f = let z : k ≡ 0 = omega (arith, h, f) in let w : m ≡ 4 = omega (arith, h, f) in subst (λ i. size_at (suc (suc (suc (suc k)))) a b c d ≤ size_at i a b c d) (sym w) (subst (λ j. size_at (suc (suc (suc (suc j)))) a b c d ≤ size_at 4 a b c d) (sym z) (le_refl _))

alphabet_more : (k m : ℕ) (pool : List ℕ) → 0 < k → k ≤ m → m ≤ 4 → length (alphabet k pool) ≤ length (alphabet m pool)
unfolding size_at
alphabet_more k m pool some h few =
    let e = size_formula k pool (omega (arith, h, few)) in
    let f = size_formula m pool (omega (arith, few)) in
    let g = size_more (length (those_within 0 8 pool)) (length (those_within 0 256 pool)) (length (those_within 1 32 pool)) (length (those_within 1 33 pool)) k m some h few in
    rw (e, f) g

-- each mnemonic of two registers or one has an instruction
pub least_instrs : (k : ℕ) (pool : List ℕ) → 0 < k → k ≤ 4 → 26 ≤ length (alphabet k pool)
least_instrs k pool some few =
    let e = size_formula k pool (omega (arith, few)) in
    let square : 1 * 1 ≤ k * k = mul-le-mul some some in
    omega (arith, e, square)

pub sum_more : (a b n : ℕ) → a ≤ b → sum_below (λ i. a ^ i) n ≤ sum_below (λ i. b ^ i) n
unfolding sum_below
sum_more a b zero h = le_refl _
sum_more a b (suc n) h = let p = pow-le-pow_left h n in let q = sum_more a b n h in omega (arith, p, q)

sum_longer : (b m n : ℕ) → sum_below (λ i. b ^ i) m ≤ sum_below (λ i. b ^ i) (m + n)
unfolding sum_below
sum_longer b m zero = let e : m + 0 ≡ m = omega arith in rw e (le_refl _)
sum_longer b m (suc n) = let e : m + suc n ≡ suc (m + n) = omega arith in rw e (let q = sum_longer b m n in omega (arith, q))

pub shorter_more : (k m : ℕ) (pool : List ℕ) (p q : ℕ) → 0 < k → k ≤ m → m ≤ 4 → p ≤ q → length (sequences_below k pool p) ≤ length (sequences_below m pool q)
shorter_more k m pool p q some h few short =
    let e = length-sequences_below k pool p in
    let f = length-sequences_below m pool q in
    let n : q ≡ p + (q - p) = omega (arith, short) in
    let wide = sum_more (length (alphabet k pool)) (length (alphabet m pool)) p (alphabet_more k m pool some h few) in
    let long : sum_below (λ i. length (alphabet m pool) ^ i) p ≤ sum_below (λ i. length (alphabet m pool) ^ i) q = subst (λ j. sum_below (λ i. length (alphabet m pool) ^ i) p ≤ sum_below (λ i. length (alphabet m pool) ^ i) j) (sym n) (sum_longer (length (alphabet m pool)) p (q - p)) in
    omega (arith, e, f, wide, long)
