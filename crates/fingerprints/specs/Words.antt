-- The words of eight states by register, from which prints are mixed.
use Rattle.std.specs.Prelude.{ℕ, ◌≡◌, slice_index}
use Rattle.fingerprints.specs.declared.lanes.Lanes.{Lanes}
use Rattle.fingerprints.specs.declared.print.Words.{Words}
use Rattle.fingerprints.specs.Lanes.{values_at, flags_at}

-- the words are those of the lane
pub record AreWordsAt (lanes : Lanes) (words : Words) (i : ℕ) : Type 0 where
  pub r0 : slice_index words.r0 i ≡ values_at lanes i 0
  pub r1 : slice_index words.r1 i ≡ values_at lanes i 1
  pub r2 : slice_index words.r2 i ≡ values_at lanes i 2
  pub r3 : slice_index words.r3 i ≡ values_at lanes i 3
  pub nzcv : slice_index words.nzcv i ≡ flags_at lanes i
