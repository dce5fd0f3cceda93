use Rattle.std.proofs.Common.{◌≡◌}
use Rattle.flow_tidy.proofs.Ending.{unknown, IsWalk}
use Rattle.flow_tidy.proofs.chain_ends.walk.Given as goal

abbrev pub invariant-walking : goal.invariant-walking
invariant-walking l = record { same : l.draft ≡ l.fn.draft; walk : IsWalk l.draft l.ends l.fn.first l.at l.next }

abbrev pub decreases-walking : goal.decreases-walking
decreases-walking l = unknown l.ends
