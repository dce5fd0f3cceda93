-- Tables whose numbers stand for one rule each, and how many registers instructions name.
use Rattle.std.proofs.Common.{◌≡◌, ℕ, zero, suc, ◌≤◌, List, [], ◌∷◌, Some, refl, arith}
use Rattle.std.specs.Prelude.{slice_get}
use Rattle.thumb_instr.specs.declared.instr.Instr.{Instr}
use Rattle.thumb_instr.specs.Window.{named, AreBelow}
use Rattle.thumb_model.specs.Effect.{AreOver, above, register_count}
use Rattle.rule_model.specs.Rules.{Rule, rule_at, alone}

-- ---- one rule for each number ----

-- the rule of a number is its first instance
pub alone_at : (rules : List Rule) (k : ℕ) (rule : Rule) → slice_get rules k ≡ Some rule → rule_at (alone rules) k 0 ≡ Some rule
alone_at [] k rule e = absurd (cc)
alone_at (r ∷ rs) zero rule e = e
alone_at (r ∷ rs) (suc k) rule e = alone_at rs k rule e

-- and has no other
pub alone_is : (rules : List Rule) (k instance : ℕ) (rule : Rule) → rule_at (alone rules) k instance ≡ Some rule → (slice_get rules k ≡ Some rule) × (instance ≡ 0)
alone_is [] k instance rule e = absurd (cc)
alone_is (r ∷ rs) zero zero rule e = (e, refl)
alone_is (r ∷ rs) zero (suc n) rule e = absurd (cc)
alone_is (r ∷ rs) (suc k) instance rule e = alone_is rs k instance rule e

-- ---- registers ----

pub above_most : (k : ℕ) (xs : List ℕ) → AreBelow k xs → above xs ≤ k
above_most k [] h = omega arith
above_most k (x ∷ xs) h = let rest = above_most k xs h.1 in let here = h.0 in omega arith

-- instructions over so many registers name no more
pub count_over : (k : ℕ) (is : List Instr) → AreOver k is → register_count is ≤ k
count_over k [] h = omega arith
count_over k (i ∷ is) h = let here = above_most k (named i) h.1 in let rest = count_over k is h.2 in omega arith
