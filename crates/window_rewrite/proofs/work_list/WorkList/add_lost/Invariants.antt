use Rattle.std.proofs.Common.{◌≡◌, ◌-◌, ◌⊎◌, ℕ, suc, true, false, length}
use Rattle.edited_listing.specs.Edited.{marks}
use Rattle.kept_places.specs.Marks.{is_gone, marked}
use Rattle.window_rewrite.specs.WorkList.{before_least, Reaches, StayMarked}
use Rattle.window_rewrite.proofs.work_list.WorkList.add_lost.Given as goal

-- what ends right before a place that lost an item is due, or the place is still to be taken
abbrev pub invariant-loop-place : goal.invariant-loop-place
invariant-loop-place l = record {
  due : StayMarked l.fn.self.due l.self.due;
  reached : (p q : ℕ) → marked l.fn.self.lost (suc q) ≡ true → is_gone (marks l.fn.scene.listing) q ≡ false → Reaches (marks l.fn.scene.listing) l.fn.longest p q → (marked l.self.due p ≡ true) ⊎ (marked l.self.lost (suc q) ≡ true);
  lost_many : length l.self.lost ≡ length l.fn.self.lost;
  refused : l.self.refused ≡ l.fn.self.refused;
}

abbrev pub decreases-loop-place : goal.decreases-loop-place
decreases-loop-place l = length l.self.lost - before_least l.self.lost
