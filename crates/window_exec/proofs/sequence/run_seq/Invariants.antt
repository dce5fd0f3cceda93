use Rattle.std.proofs.Common.{◌≡◌, drop}
use Rattle.thumb_model.specs.Effect.{after_all, AreOver}
use Rattle.window_exec.specs.State.{values_of}
use Rattle.window_exec.proofs.sequence.run_seq.Given as goal

-- the instructions that are left lead from the current state to the end of the whole run
abbrev pub invariant-loop-instr : goal.invariant-loop-instr
invariant-loop-instr l = record {
  over : AreOver 4 (drop l.instr-index l.seq);
  ends : after_all (drop l.instr-index l.seq) (values_of l.state) ≡ after_all l.seq (values_of l.fn.state);
}
