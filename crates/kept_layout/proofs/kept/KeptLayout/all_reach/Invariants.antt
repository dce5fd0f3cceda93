use Rattle.kept_layout.specs.Moves.{news}
use Rattle.kept_layout.proofs.ShrinkingReach.{AreMet}
use Rattle.kept_layout.proofs.kept.KeptLayout.all_reach.Given as goal

abbrev pub invariant-loop-number : goal.invariant-loop-number
invariant-loop-number l = AreMet l.self (news l.self l.bytes l.moved.at.items) l.moved.by l.first l.number
