use Rattle.std.proofs.Common.{◌≡◌, take}
use Rattle.std.specs.Prelude.{sum_by}
use Rattle.table_learn.specs.Lengths.{instr_length}
use Rattle.table_learn.proofs.lengths.side_length.Given as goal

abbrev pub invariant-loop-instr : goal.invariant-loop-instr
invariant-loop-instr l = l.total ≡ sum_by (instr_length l.word) (take l.instr-index l.instrs)
