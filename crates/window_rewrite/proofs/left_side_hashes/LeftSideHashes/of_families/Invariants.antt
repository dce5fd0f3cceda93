use Rattle.std.proofs.Common.{map}
use Rattle.rule_table.specs.Views.{family_of, rule_of}
use Rattle.window_rewrite.specs.Rules.{blind_side, families_in, AreNoted}
use Rattle.window_rewrite.proofs.left_side_hashes.LeftSideHashes.of_families.Given as goal

abbrev pub invariant-loop-number : goal.invariant-loop-number
invariant-loop-number l = AreNoted l.costs blind_side (families_in (map rule_of l.entries) (map family_of l.families)) l.number l.marks
