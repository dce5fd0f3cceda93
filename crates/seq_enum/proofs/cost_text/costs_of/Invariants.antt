use Rattle.std.proofs.Common.{◌≡◌, ◌≤◌, length, take, map}
use Rattle.std.specs.List.{All}
use Rattle.std.specs.Option.{unwrap_or}
use Rattle.seq_enum.proofs.cost_text.costs_of.Given as goal

abbrev pub invariant-loop-place : goal.invariant-loop-place
invariant-loop-place l = record {
  as_many : length l.numbers ≡ 28;
  so_far : take l.place l.numbers ≡ map (λ cost. unwrap_or cost 1) (take l.place l.kept);
  each : All (λ n. (1 ≤ n) × (n ≤ 64)) (take l.place l.numbers);
}
