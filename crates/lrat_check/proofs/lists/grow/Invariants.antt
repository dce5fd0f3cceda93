use Rattle.std.proofs.Common.{◌≡◌, ℕ, ◌-◌, ◌+◌, vec_len, length}
use Rattle.std.specs.Prelude.{sum_by}
use Rattle.lrat_check.specs.Lists.{listed, under}
use Rattle.lrat_check.proofs.lists.grow.Given as goal

abbrev pub invariant-loop-alloc : goal.invariant-loop-alloc
invariant-loop-alloc l = record {
  same : (k : ℕ) → under (listed l.lists.items) k ≡ under (listed l.initial.lists.items) k;
  lengths : sum_by (sum_by length) (listed l.lists.items) ≡ sum_by (sum_by length) (listed l.initial.lists.items);
}

abbrev pub decreases-loop-alloc : goal.decreases-loop-alloc
decreases-loop-alloc l = l.at + 1 - vec_len l.lists
