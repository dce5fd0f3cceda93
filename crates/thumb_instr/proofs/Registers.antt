-- Low registers as general registers, and that values of a range type with the same number are equal.
use Rattle.std.proofs.Common.{refl, ◌≡◌, ◌≢◌, ℕ, ◌<◌, ◌≤◌, ◌*◌, ◌%◌, ◌/◌, ◌^◌}
use mathlib.Core.HLevel.{is_prop→PathP}
use native.Mathlib.Bridge.{le_prop}
use Rattle.std.proofs.Math.Nat.{ℕ_set}
use Rattle.thumb_instr.specs.declared.within.Within.{Within}
use Rattle.thumb_instr.specs.declared.within.General.{General}
use Rattle.thumb_instr.specs.declared.distance.Distance.{Distance}
use Rattle.thumb_instr.specs.declared.within.NotBothSp.{NotBothSp}
use Rattle.thumb_instr.specs.declared.within.NotBothLow.{NotBothLow}
use Rattle.thumb_instr.specs.declared.within.Stored.{Stored}
use Rattle.thumb_instr.specs.Window.{widened}

-- widening a low register keeps its number
pub widened_number : (r : Within 0 8) → (widened r).number ≡ r.number
unfolding widened
widened_number r = refl

-- numbers of a range, registers, distances and pairs with the same content are equal
pub same_number : {a b : ℕ} (x y : Within a b) → x.number ≡ y.number → x ≡ y
same_number {a} {b} x y e = λ i. record {
  number = e i;
  least = is_prop→PathP (λ j. a ≤ e j) (λ j. le_prop) x.least y.least i;
  below = is_prop→PathP (λ j. e j < b) (λ j. le_prop) x.below y.below i;
}

pub same_general : (x y : General) → x.number ≡ y.number → x ≡ y
same_general x y e = λ i. record {
  number = e i;
  below = is_prop→PathP (λ j. e j < 15) (λ j. le_prop) x.below y.below i;
  no_sp = is_prop→PathP (λ j. e j ≢ 13) (λ j. hlevel) x.no_sp y.no_sp i;
}

pub same_distance : {h : ℕ} (x y : Distance h) → x.field ≡ y.field → x ≡ y
same_distance {h} x y e = λ i. record {
  field = e i;
  below = is_prop→PathP (λ j. e j < 2 * h) (λ j. le_prop) x.below y.below i;
}

pub same_not_both_sp : (x y : NotBothSp) → x.target ≡ y.target → x.source ≡ y.source → x ≡ y
same_not_both_sp x y e f = λ i. record {
  target = e i;
  source = f i;
  one_other = is_prop→PathP (λ j. (e j).number ≡ 13 → (f j).number ≢ 13) (λ j. hlevel) x.one_other y.one_other i;
}

pub same_not_both_low : (x y : NotBothLow) → x.left ≡ y.left → x.right ≡ y.right → x ≡ y
same_not_both_low x y e f = λ i. record {
  left = e i;
  right = f i;
  one_high = is_prop→PathP (λ j. (e j).number < 8 → 8 ≤ (f j).number) (λ j. hlevel le_prop) x.one_high y.one_high i;
}

pub same_stored : (x y : Stored) → x.base ≡ y.base → x.list ≡ y.list → x ≡ y
same_stored x y e f = λ i. record {
  base = e i;
  list = f i;
  base_first = is_prop→PathP (λ j. (f j).number / 2 ^ (e j).number % 2 ≡ 1 → (f j).number % 2 ^ (e j).number ≡ 0) (λ j. hlevel ℕ_set) x.base_first y.base_first i;
}

pub low_is : (a b : Within 0 8) → a.number ≡ b.number → a ≡ b
low_is a b e = same_number a b e
