use Rattle.window_rewrite.specs.Rules.{left_side, rules_in, AreNoted}
use Rattle.rule_model.specs.Rules.{alone}
use Rattle.window_rewrite.proofs.left_side_hashes.LeftSideHashes.of.Given as goal

abbrev pub invariant-loop-number : goal.invariant-loop-number
invariant-loop-number l = AreNoted l.costs left_side (alone (rules_in l.entries)) l.number l.marks
