use Rattle.std.proofs.Common.{◌≡◌, length, map}
use Rattle.thumb_model.specs.Effect.{after_all}
use Rattle.window_exec.specs.State.{values_of}
use Rattle.fingerprints.specs.Print.{print_from, print_after}
use Rattle.fingerprints.proofs.print.print_of.Given as goal

-- mixing the remaining states into the print so far yields the whole print
abbrev pub invariant-loop-instrs : goal.invariant-loop-instrs
invariant-loop-instrs l = print_from l.mask.items.bits l.h (map (after_all l.instrs) (map values_of l.rest)) ≡ print_after l.mask.items.bits (map values_of l.states) l.instrs

abbrev pub decreases-loop-instrs : goal.decreases-loop-instrs
decreases-loop-instrs l = length l.rest
