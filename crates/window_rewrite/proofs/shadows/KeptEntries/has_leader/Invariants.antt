use Rattle.std.proofs.Common.{◌≡◌, ◌<◌, ℕ, Some, true}
use Rattle.window_rewrite.specs.Rules.{is_marked}
use Rattle.window_rewrite.proofs.Keeping.{up_to}
use Rattle.window_rewrite.proofs.shadows.KeptEntries.has_leader.Given as goal

abbrev pub invariant-loop-at : goal.invariant-loop-at
invariant-loop-at l = (j : ℕ) → l.at ≡ Some j → (j < l.number) × (is_marked l.self.kept.items j ≡ true)

abbrev pub decreases-loop-at : goal.decreases-loop-at
decreases-loop-at l = up_to l.at
