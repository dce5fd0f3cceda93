-- Sets of places, with how many code points have each item.
use Rattle.std.specs.Prelude.{◌≡◌, ℕ, ◌+◌, ◌<◌, ◌&&◌, nat_lt, Bool, List, [], ◌∷◌, length, get_or}
use Rattle.std.specs.Int.{from_bool}
use Rattle.thumb_instr.specs.declared.items.Items.{Items}
use Rattle.thumb_instr.specs.Items.{has}
use Rattle.liveness.specs.declared.counted.PointSets.{PointSets}

-- how many of the marked places have the item
unfoldable pub points_with : ℕ → List Bool → List Items → ℕ
points_with x [] ss = 0
points_with x (m ∷ ms) [] = 0
points_with x (m ∷ ms) (s ∷ ss) = from_bool (m && has s.bits x) + points_with x ms ss

-- the counts are those of the marked places, and `points` has the items whose count isn't 0
pub record AreCounted (marks : List Bool) (s : PointSets) : Type 0 where
  pub kinds : length s.counts.items ≡ 19
  pub counts : (x : ℕ) → x < 19 → get_or s.counts.items x 0 ≡ points_with x marks s.sets.items
  pub points : (x : ℕ) → has s.points.bits x ≡ nat_lt 0 (points_with x marks s.sets.items)
