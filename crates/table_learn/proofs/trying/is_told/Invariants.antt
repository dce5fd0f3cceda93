use Rattle.std.proofs.Common.{ℕ, true, ◌≡◌, ◌<◌, ◌≤◌, ◌+◌, ◌*◌, length, get_or}
use Rattle.window_exec.specs.declared.state.WState.{WState}
use Rattle.window_exec.specs.State.{seen}
use Rattle.table_learn.specs.Tellings.{tells_apart}
use Rattle.table_learn.proofs.trying.is_told.Given as goal

-- none of the states tried so far tells the two apart
abbrev pub invariant-loop-passed : goal.invariant-loop-passed
invariant-loop-passed g l = record {
  none : (k : ℕ) (s : WState) → length l.states ≤ k + l.passed → k < length l.states → get_or l.states k s ≡ s → tells_apart l.left l.right l.mask.items.bits (seen s) ≡ true → ⊥;
  cost : l.steps ≤ l.initial.steps + l.passed * (length l.left + length l.right);
}
