use Rattle.std.proofs.Common.{◌≡◌, drop}
use Rattle.thumb_model.specs.Effect.{after_all, AreOver}
use Rattle.window_exec.specs.State.{values_of}
use Rattle.step_ledger.specs.Counts.{RisesBy}
use Rattle.fingerprints.proofs.trials.run.Given as goal

-- the remaining instructions lead from the state to the final one
abbrev pub invariant-loop-instr : goal.invariant-loop-instr
invariant-loop-instr g l = record {
  over : AreOver 4 (drop l.instr-index l.instrs);
  end : after_all (drop l.instr-index l.instrs) (values_of l.state) ≡ after_all l.instrs (values_of l.fn.state);
  count : RisesBy l.initial.steps l.steps l.instr-index;
}
