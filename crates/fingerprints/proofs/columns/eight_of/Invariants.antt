use Rattle.std.proofs.Common.{◌≡◌, ◌<◌, ℕ, slice_get, Some, length}
use Rattle.window_exec.specs.declared.state.WState.{WState}
use Rattle.fingerprints.proofs.columns.eight_of.Given as goal

abbrev pub invariant-loop-i : goal.invariant-loop-i
invariant-loop-i l = record {
  whole : length l.eight ≡ 8;
  held : (j : ℕ) (s : WState) → j < l.i → slice_get l.states j ≡ Some s → slice_get l.eight j ≡ Some s;
}
