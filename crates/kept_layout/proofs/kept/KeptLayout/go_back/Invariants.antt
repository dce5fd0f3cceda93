use Rattle.std.proofs.Common.{◌≡◌}
use Rattle.kept_layout.specs.Kept.{IsLaid}
use Rattle.kept_layout.proofs.kept.KeptLayout.go_back.Given as goal

abbrev pub invariant-loop-self : goal.invariant-loop-self
invariant-loop-self l = record {
  laid : IsLaid l.self;
  blocks : l.self.blocks.items ≡ l.initial.self.blocks.items;
  base : l.self.base ≡ l.initial.self.base;
}

abbrev pub decreases-loop-self : goal.decreases-loop-self
decreases-loop-self l = l.self.here
