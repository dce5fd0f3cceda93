use Rattle.std.proofs.Common.{◌≡◌, drop, map}
use Rattle.thumb_model.specs.Effect.{after}
use Rattle.fingerprints.specs.Print.{print_from}
use Rattle.fingerprints.specs.Columns.{states_in}
use Rattle.fingerprints.proofs.sequences.print_four.Given as goal

-- mixing the remaining columns into the prints so far yields the whole prints
abbrev pub invariant-loop-column : goal.invariant-loop-column
invariant-loop-column l = record {
  a : print_from l.mask.items.bits l.prints.a (map (after l.a) (states_in (drop l.column-index l.columns))) ≡ print_from l.mask.items.bits 0 (map (after l.a) (states_in l.columns));
  b : print_from l.mask.items.bits l.prints.b (map (after l.b) (states_in (drop l.column-index l.columns))) ≡ print_from l.mask.items.bits 0 (map (after l.b) (states_in l.columns));
  c : print_from l.mask.items.bits l.prints.c (map (after l.c) (states_in (drop l.column-index l.columns))) ≡ print_from l.mask.items.bits 0 (map (after l.c) (states_in l.columns));
  d : print_from l.mask.items.bits l.prints.d (map (after l.d) (states_in (drop l.column-index l.columns))) ≡ print_from l.mask.items.bits 0 (map (after l.d) (states_in l.columns));
}
