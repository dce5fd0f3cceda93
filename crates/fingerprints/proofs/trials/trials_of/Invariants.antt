use Rattle.std.proofs.Common.{◌*◌, take, map, length}
use Rattle.window_exec.specs.State.{seen}
use Rattle.step_ledger.specs.Counts.{RisesBy}
use Rattle.fingerprints.specs.Trials.{AreTrials}
use Rattle.fingerprints.proofs.trials.trials_of.Given as goal

abbrev pub invariant-loop-state : goal.invariant-loop-state
invariant-loop-state g l = record {
  trials : AreTrials l.left (map seen (take l.state-index l.states)) l.trials.items;
  count : RisesBy l.initial.steps l.steps (l.state-index * length l.left);
}
