use Rattle.std.proofs.Common.{◌≡◌, arith, length, subst}
use Rattle.rule_model.specs.Rules.{alone}
use Rattle.window_rewrite.specs.Rules.{left_side, rules_in, AreNoted}
use Rattle.window_rewrite.proofs.Heads.{none_noted}
use Rattle.window_rewrite.proofs.left_side_hashes.LeftSideHashes.of.Goals as goal

pub loop-number-init : goal.loop-number-init
loop-number-init c = none_noted c.args.costs.now left_side (alone (rules_in c.args.entries.now)) c.in_ok-marks.marks c.in_ok-marks.ensures

pub returns : goal.returns
returns c =
    let end = c.loop-number-test.false in
    let within = c.loop-number.auto.number-end in
    let whole : c.loop-number.number ≡ length c.args.entries.now = omega arith in
    subst (λ n. AreNoted c.args.costs.now left_side (alone (rules_in c.args.entries.now)) n c.loop-number.marks) whole c.loop-number.invariant
