use Rattle.std.proofs.Common.{◌≡◌, ◌++◌, drop, length}
use Rattle.thumb_model.specs.Effect.{AreOver}
use Rattle.fingerprints.specs.Columns.{states_in}
use Rattle.fingerprints.specs.Sequences.{prints_of}
use Rattle.fingerprints.proofs.SequenceLemmas.{prints_behind}
use Rattle.fingerprints.proofs.sequences.print_instrs.Given as goal

-- the prints so far, completed by the remaining instructions', are the whole
abbrev pub invariant-loop-rest : goal.invariant-loop-rest
invariant-loop-rest l = record {
  over : AreOver 4 l.rest;
  printed : l.prints.items ++ prints_behind l.mask.items.bits (states_in l.columns) l.alphabet 0 l.rest
      ≡ l.fn.prints.items ++ prints_of l.mask.items.bits (states_in l.columns) l.alphabet 1;
}

abbrev pub decreases-loop-rest : goal.decreases-loop-rest
decreases-loop-rest l = length l.rest

abbrev pub invariant-loop-instr : goal.invariant-loop-instr
invariant-loop-instr l = record {
  over : AreOver 4 (drop l.instr-index l.instr-items);
  printed : l.prints.items ++ prints_behind l.mask.items.bits (states_in l.columns) l.alphabet 0 (drop l.instr-index l.instr-items)
      ≡ l.fn.prints.items ++ prints_of l.mask.items.bits (states_in l.columns) l.alphabet 1;
}
