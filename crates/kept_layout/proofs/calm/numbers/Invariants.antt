use Rattle.std.proofs.Common.{◌≡◌, ℕ, Some, length}
use Rattle.std.specs.Prelude.{slice_get}
use Rattle.kept_layout.proofs.calm.numbers.Given as goal

abbrev pub invariant-loop-number : goal.invariant-loop-number
invariant-loop-number l = record {
  count : length l.numbers.items ≡ l.number;
  each : (j n : ℕ) → slice_get l.numbers.items j ≡ Some n → n ≡ j;
}
