use Rattle.std.proofs.Common.{◌≡◌, drop, map}
use Rattle.thumb_model.specs.Effect.{after}
use Rattle.fingerprints.specs.Print.{print_from}
use Rattle.fingerprints.specs.Columns.{states_in}
use Rattle.fingerprints.proofs.sequences.print_next.Given as goal

-- mixing the remaining columns into the print so far yields the whole print
abbrev pub invariant-loop-column : goal.invariant-loop-column
invariant-loop-column l = print_from l.mask.items.bits l.h (map (after l.instr) (states_in (drop l.column-index l.columns))) ≡ print_from l.mask.items.bits 0 (map (after l.instr) (states_in l.columns))
