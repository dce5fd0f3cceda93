use Rattle.std.proofs.Common.{◌≡◌, ◌++◌, drop, map}
use Rattle.thumb_model.specs.Effect.{after}
use Rattle.fingerprints.specs.Columns.{states_in}
use Rattle.fingerprints.proofs.sequences.stepped.Given as goal

-- the states so far, completed by the remaining columns', are the whole
abbrev pub invariant-loop-column : goal.invariant-loop-column
invariant-loop-column l = states_in l.later.items ++ map (after l.instr) (states_in (drop l.column-index l.columns)) ≡ map (after l.instr) (states_in l.columns)
