use Rattle.std.proofs.Common.{◌≡◌, ◌≤◌, take, length}
use Rattle.std.specs.List.{All}
use Rattle.seq_enum.proofs.costs.Costs.new.Given as goal

abbrev pub invariant-loop-place : goal.invariant-loop-place
invariant-loop-place l = record {
  as_many : length l.kept ≡ 28;
  so_far : take l.place l.kept ≡ take l.place l.numbers;
  each : All (λ n. (1 ≤ n) × (n ≤ 64)) (take l.place l.numbers);
}
