use Rattle.std.proofs.Common.{◌≡◌, drop, map}
use Rattle.thumb_model.specs.Effect.{after_all, AreOver}
use Rattle.fingerprints.specs.Columns.{states_of}
use Rattle.fingerprints.proofs.columns.Column.run.Given as goal

-- the remaining instructions lead from the states so far to the final ones
abbrev pub invariant-loop-instr : goal.invariant-loop-instr
invariant-loop-instr l = record {
  over : AreOver 4 (drop l.instr-index l.instrs);
  ends : map (after_all (drop l.instr-index l.instrs)) (states_of l.column) ≡ map (after_all l.instrs) (states_of l.fn.self);
}
