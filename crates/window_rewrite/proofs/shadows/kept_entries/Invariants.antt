use Rattle.window_rewrite.specs.Rules.{rules_in, AreKept}
use Rattle.window_rewrite.proofs.shadows.kept_entries.Given as goal

abbrev pub invariant-loop-number : goal.invariant-loop-number
invariant-loop-number l = AreKept l.costs (rules_in l.entries) l.number l.all
