-- Arithmetic of whole numbers that several crates need.
use Rattle.std.proofs.Common.{arith, ℕ, ◌*◌, ◌+◌, ◌≡◌}

pub one_more_times : (r w : ℕ) → (r + 1) * w ≡ r * w + w
one_more_times r w = grind arith
