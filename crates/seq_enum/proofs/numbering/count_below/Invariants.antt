use Rattle.std.proofs.Common.{◌≡◌, ◌≤◌, ◌*◌, ◌^◌}
use Rattle.seq_enum.specs.Places.{sum_below}
use Rattle.seq_enum.proofs.numbering.count_below.Given as goal

abbrev pub invariant-loop-n : goal.invariant-loop-n
invariant-loop-n l = record { total : l.total ≡ sum_below (λ n. l.size ^ n) l.n; small : l.total ≤ l.n * 1952 ^ 5 }
