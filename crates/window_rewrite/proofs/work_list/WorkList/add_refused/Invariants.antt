use Rattle.std.proofs.Common.{◌≡◌, ◌-◌, ◌⊎◌, ℕ, true, length}
use Rattle.kept_places.specs.Marks.{marked}
use Rattle.window_rewrite.specs.WorkList.{before_least, StayMarked}
use Rattle.window_rewrite.proofs.work_list.WorkList.add_refused.Given as goal

-- a place at which something was refused is due, or still to be taken
abbrev pub invariant-loop-place : goal.invariant-loop-place
invariant-loop-place l = record {
  due : StayMarked l.fn.self.due l.self.due;
  reached : (p : ℕ) → marked l.fn.self.refused p ≡ true → (marked l.self.due p ≡ true) ⊎ (marked l.self.refused p ≡ true);
  refused_many : length l.self.refused ≡ length l.fn.self.refused;
  lost : l.self.lost ≡ l.fn.self.lost;
}

abbrev pub decreases-loop-place : goal.decreases-loop-place
decreases-loop-place l = length l.self.refused - before_least l.self.refused
