use Rattle.std.proofs.Common.{◌≡◌, ◌-◌, ◌≤◌, ◌++◌, drop}
use Rattle.thumb_model.specs.Effect.{AreOver}
use Rattle.fingerprints.specs.Columns.{states_in}
use Rattle.fingerprints.specs.Sequences.{prints_of}
use Rattle.fingerprints.proofs.SequenceLemmas.{prints_behind}
use Rattle.fingerprints.proofs.sequences.+print_length.Given as goal

abbrev pub decreases-print_length : goal.decreases-print_length
decreases-print_length l = l.length

-- the prints so far, completed by the remaining instructions', are those of the length
abbrev pub invariant-loop-instr : goal.invariant-loop-instr
invariant-loop-instr l = record {
  over : AreOver 4 (drop l.instr-index l.alphabet);
  some : 1 ≤ l.length;
  printed : l.prints.items ++ prints_behind l.mask.items.bits (states_in l.columns) l.alphabet (l.length - 1) (drop l.instr-index l.alphabet)
      ≡ l.fn.prints.items ++ prints_of l.mask.items.bits (states_in l.columns) l.alphabet l.length;
}
