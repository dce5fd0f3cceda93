use Rattle.std.proofs.Common.{◌≡◌}
use Rattle.kept_layout.specs.Moves.{AreNotedIn}
use Rattle.kept_layout.proofs.kept.KeptLayout.note_range.Given as goal

abbrev pub invariant-loop-number : goal.invariant-loop-number
invariant-loop-number l = record {
  fields : l.self ≡ record l.initial.self { blocks = l.self.blocks };
  noting : AreNotedIn l.initial.self l.bytes l.moved.at.items l.moved.by l.lag l.from l.number l.self.blocks.items;
}
