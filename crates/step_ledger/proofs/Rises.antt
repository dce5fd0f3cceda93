-- The counts of steps of two calls, one after the other, add up, so that a caller's cost is the sum of its parts.
use Rattle.std.proofs.Common.{◌≡◌, ℕ, ◌+◌, ◌-◌, ◌^◌, ◌≤◌, min, arith}
use Rattle.step_ledger.specs.Counts.{RisesByAtLeast, RisesBy}

pub at_least-stays : (n : ℕ) → RisesByAtLeast n n 0
at_least-stays n = omega arith

pub at_least-goes_on : (a b c m n : ℕ) → RisesByAtLeast a b m → RisesByAtLeast b c n → RisesByAtLeast a c (m + n)
at_least-goes_on a b c m n h k = omega arith

pub at_least-fewer : (a b m n : ℕ) → n ≤ m → RisesByAtLeast a b m → RisesByAtLeast a b n
at_least-fewer a b m n h k = omega arith

pub at_least-ticks : (a b : ℕ) → b ≡ min (a + 1) (2 ^ 64 - 1) → RisesByAtLeast a b 1
at_least-ticks a b e = omega arith

pub stays : (n : ℕ) → RisesBy n n 0
stays n = (at_least-stays n, omega arith)

pub goes_on : (a b c m n : ℕ) → RisesBy a b m → RisesBy b c n → RisesBy a c (m + n)
goes_on a b c m n h k = let p = h.1 in let q = k.1 in (at_least-goes_on a b c m n h.0 k.0, omega arith)

pub ticks : (a b : ℕ) → b ≡ min (a + 1) (2 ^ 64 - 1) → RisesBy a b 1
ticks a b e = (at_least-ticks a b e, omega arith)
