use Rattle.std.proofs.Common.{ℕ, ◌≡◌, ◌<◌, ◌≤◌, ◌+◌, ◌*◌, length, get_or}
use Rattle.thumb_model.specs.Effect.{after_all}
use Rattle.window_exec.specs.State.{values_of, Differ}
use Rattle.fingerprints.specs.declared.trials.Trial.{Trial}
use Rattle.fingerprints.proofs.trials.is_told.Given as goal

-- none of the trials so far tells
abbrev pub invariant-loop-passed : goal.invariant-loop-passed
invariant-loop-passed g l = record {
  none : (k : ℕ) (t : Trial) → length l.trials ≤ k + l.passed → k < length l.trials → get_or l.trials k t ≡ t → Differ (values_of t.end) (after_all l.instrs (values_of t.start)) l.mask.items.bits → ⊥;
  cost : l.steps ≤ l.initial.steps + l.passed * length l.instrs;
}
