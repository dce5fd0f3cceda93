use Rattle.std.proofs.Common.{◌≡◌, ◌<◌, ℕ, true, slice_get, Some}
use Rattle.kept_places.specs.Marks.{marked}
use Rattle.window_rewrite.specs.WorkList.{StayMarked}
use Rattle.window_rewrite.proofs.work_list.WorkList.add.Given as goal

-- the places so far are due
abbrev pub invariant-loop-place : goal.invariant-loop-place
invariant-loop-place l = record {
  due : StayMarked l.fn.self.due l.self.due;
  these : (k p : ℕ) → k < l.place-index → slice_get l.places k ≡ Some p → marked l.self.due p ≡ true;
  refused : l.self.refused ≡ l.fn.self.refused;
  lost : l.self.lost ≡ l.fn.self.lost;
}
