-- Little-endian numbers, byte by byte.
use Rattle.std.proofs.Common.{◌≡◌, ℕ, suc, ◌+◌, ◌*◌, ◌/◌, ◌%◌, ◌^◌, ◌<◌, ◌≤◌, [], ◌∷◌, refl, arith}
use Rattle.std.proofs.Math.Nat.{pow-succ'}
use Rattle.thumb_model.specs.Effect.{assigned}
use Rattle.thumb_model.specs.Accesses.{with_value}

-- the lowest byte is put over the others
pub put_step : (m : ℕ → ℕ) (a n k v : ℕ) → n ≡ suc k → assigned ((a, v % 256) ∷ []) (with_value m (a + 1) k (v / 256)) ≡ with_value m a n v
put_step m a n k v e = rw e refl

-- one more byte keeps a number below its bound
pub value_step : (n k b v : ℕ) → n ≡ suc k → b < 256 → v < 256 ^ k → b + 256 * v < 256 ^ n
value_step n k b v e low high = rw (e, pow-succ' 256 k) (omega arith)

-- a number of up to three bytes is below 2^24, so that one more fits 32 bits
pub three_bytes : (k v : ℕ) → k ≤ 3 → v < 256 ^ k → v < 16777216
three_bytes (suc (suc (suc (suc k)))) v h l = absurd (omega arith)
three_bytes k v h l = omega arith
