use Rattle.std.proofs.Common.{◌≡◌, ◌++◌, length, map}
use Rattle.window_exec.specs.State.{values_of}
use Rattle.fingerprints.specs.Columns.{states_in}
use Rattle.fingerprints.proofs.arranging.columns_of.Given as goal

-- the columns so far, completed by the remaining states, are the whole
abbrev pub invariant-loop-rest : goal.invariant-loop-rest
invariant-loop-rest l = states_in l.columns.items ++ map values_of l.rest ≡ map values_of l.states

abbrev pub decreases-loop-rest : goal.decreases-loop-rest
decreases-loop-rest l = length l.rest
