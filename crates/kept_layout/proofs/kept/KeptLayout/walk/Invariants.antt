use Rattle.std.proofs.Common.{◌≡◌, ◌-◌, length}
use Rattle.kept_layout.specs.Moves.{news, AreKnownRight, IsWalked}
use Rattle.kept_layout.proofs.kept.KeptLayout.walk.Given as goal

abbrev pub invariant-loop-next : goal.invariant-loop-next
invariant-loop-next l = record {
  walked : IsWalked l.self l.bytes (news l.self l.bytes l.moved.at.items) l.at l.next;
  known : AreKnownRight l.self (news l.self l.bytes l.moved.at.items) 0;
  by : l.moved.by ≡ 0;
}

abbrev pub decreases-loop-next : goal.decreases-loop-next
decreases-loop-next l = length l.self.blocks.items - l.next
