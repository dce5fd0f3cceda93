use Rattle.std.proofs.Common.{◌≡◌, ◌<◌, ◌≤◌, ℕ, decimal}
use Rattle.seq_enum.proofs.cost_text.cost_of.Given as goal

abbrev pub invariant-loop-cost : goal.invariant-loop-cost
invariant-loop-cost l = record { some : 1 ≤ l.cost; none : (n : ℕ) → 1 ≤ n → n < l.cost → decimal n ≡ l.word → ⊥ }
