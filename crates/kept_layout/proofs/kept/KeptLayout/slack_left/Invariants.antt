use Rattle.kept_layout.specs.Moves.{news}
use Rattle.kept_layout.proofs.Nearing.{IsLeft}
use Rattle.kept_layout.proofs.kept.KeptLayout.slack_left.Given as goal

abbrev pub invariant-loop-number : goal.invariant-loop-number
invariant-loop-number l = IsLeft l.self (news l.self l.bytes l.moved.at.items) l.moved.by l.number l.slack
