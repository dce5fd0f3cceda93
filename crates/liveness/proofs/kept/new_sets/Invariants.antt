use Rattle.std.proofs.Common.{◌≡◌, length}
use Rattle.liveness.specs.Through.{AreThrough}
use Rattle.liveness.proofs.kept.new_sets.Given as goal

abbrev pub invariant-loop-at : goal.invariant-loop-at
invariant-loop-at l = record { len : length l.sets.items ≡ l.at; through : AreThrough l.instrs l.after l.sets.items }
