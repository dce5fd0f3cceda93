use Rattle.std.proofs.Common.{◌≡◌, ◌≤◌, ◌-◌, length}
use Rattle.kept_layout.specs.Kept.{IsLaid}
use Rattle.kept_layout.proofs.kept.KeptLayout.go_on.Given as goal

abbrev pub invariant-loop-self : goal.invariant-loop-self
invariant-loop-self l = record {
  laid : IsLaid l.self;
  blocks : l.self.blocks.items ≡ l.initial.self.blocks.items;
  base : l.self.base ≡ l.initial.self.base;
  count : l.count ≡ length l.self.blocks.items;
  from : l.self.first ≤ l.place;
}

abbrev pub decreases-loop-self : goal.decreases-loop-self
decreases-loop-self l = length l.self.blocks.items - l.self.here
