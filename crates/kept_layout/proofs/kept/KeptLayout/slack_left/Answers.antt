use Rattle.std.proofs.Common.{◌+◌, ◌-◌, refl, arith}
use Rattle.std.specs.Prelude.{nat_le}
use Rattle.std.proofs.lemmas.Bool.{and_parts, leb-true}
use Rattle.kept_layout.specs.Moves.{news}
use Rattle.kept_layout.proofs.Nearing.{left_all, left_first, left_more}
use Rattle.kept_layout.proofs.Walls.{calm_slack, end_news}
use Rattle.kept_layout.proofs.kept.KeptLayout.slack_left.Goals as goal

pub overflow_sub-slack : goal.overflow_sub-slack
overflow_sub-slack c = let k = c.args.self.now in leb-true c.args.moved.now.by k.slack (and_parts (nat_le c.args.moved.now.by k.slack) (nat_le k.slack_from k.here) c.requires.enough).0

pub loop-number-init : goal.loop-number-init
loop-number-init c =
    let k = c.args.self.now in
    left_first k (news k c.args.bytes c.args.moved.now.at.items) c.args.moved.now.by c.wall-wall.result (k.slack - c.args.moved.now.by) refl
    (λ j h m. calm_slack k (news k c.args.bytes c.args.moved.now.at.items) c.args.moved.now.by j (k.slack - c.args.moved.now.by) c.requires.laid h (omega arith))

pub own_slack-requires-clause-within : goal.own_slack-requires-clause-within
own_slack-requires-clause-within c =
    let within = c.requires.is.within in
    let end = end_news c.args.self.now c.args.bytes c.args.moved.now.at.items c.requires.laid in
    omega arith

pub loop-number-preserved : goal.loop-number-preserved
loop-number-preserved c = left_more c.args.self.now (news c.args.self.now c.args.bytes c.args.moved.now.at.items) c.args.moved.now.by c.loop-number.number (c.loop-number.number + 1) c.loop-number.slack c.own_slack.result c.min-slack.result c.loop-number.invariant c.own_slack.ensures c.min-slack.ensures (omega arith)

pub returns : goal.returns
returns c = left_all c.args.self.now (news c.args.self.now c.args.bytes c.args.moved.now.at.items) c.args.moved.now.by c.loop-number.number c.loop-number.slack c.requires.laid c.requires.is c.requires.enough (let end = end_news c.args.self.now c.args.bytes c.args.moved.now.at.items c.requires.laid in omega arith) c.loop-number.invariant
