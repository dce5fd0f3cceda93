use Rattle.kept_layout.specs.Moves.{news}
use Rattle.kept_layout.proofs.Nearing.{AreTried}
use Rattle.kept_layout.proofs.kept.KeptLayout.slack_behind.Given as goal

abbrev pub invariant-loop-number : goal.invariant-loop-number
invariant-loop-number l = AreTried l.self (news l.self l.bytes l.moved.at.items) l.moved.by l.number-index l.slack
