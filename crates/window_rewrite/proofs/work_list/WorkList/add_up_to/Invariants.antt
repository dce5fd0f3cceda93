use Rattle.std.proofs.Common.{◌≡◌, ◌+◌, ◌<◌, ◌≤◌, ℕ, true, false, length}
use Rattle.edited_listing.specs.Edited.{marks}
use Rattle.kept_places.specs.Marks.{is_gone, marked, rank}
use Rattle.window_rewrite.specs.WorkList.{StayMarked}
use Rattle.window_rewrite.proofs.work_list.WorkList.add_up_to.Given as goal

-- the kept places from `at` up to the given place are due
abbrev pub invariant-loop-passed : goal.invariant-loop-passed
invariant-loop-passed l = record {
  due : StayMarked l.fn.self.due l.self.due;
  within : l.at < length l.fn.scene.listing.stands;
  kept : is_gone (marks l.fn.scene.listing) l.at ≡ false;
  passed : rank (marks l.fn.scene.listing) l.at + l._passed ≡ rank (marks l.fn.scene.listing) l.fn.place + 1;
  reached : (p : ℕ) → is_gone (marks l.fn.scene.listing) p ≡ false → rank (marks l.fn.scene.listing) l.at ≤ rank (marks l.fn.scene.listing) p → rank (marks l.fn.scene.listing) p ≤ rank (marks l.fn.scene.listing) l.fn.place → marked l.self.due p ≡ true;
  refused : l.self.refused ≡ l.fn.self.refused;
  lost : l.self.lost ≡ l.fn.self.lost;
}
