use Rattle.std.proofs.Common.{[], ◌+◌, ◌-◌, ◌*◌, ◌^◌, ◌≤◌, min, length}
use Rattle.thumb_model.specs.Listing.{code_of}
use Rattle.liveness.specs.Passes.{total}
use Rattle.liveness.specs.Waiting.{left}
use Rattle.liveness.specs.Settling.{IsSettling}
use Rattle.liveness.proofs.settling.settle.Given as goal

abbrev pub invariant-loop-place : goal.invariant-loop-place
invariant-loop-place g l = record {
  settling : IsSettling (code_of l.listing) l.ways [] l.found l.waiting;
  visited : min (l.fn.steps + length l.ways) (2 ^ 64 - 1) ≤ l.steps + left l.waiting;
  cost : l.steps + left l.waiting ≤ l.fn.steps + (total l.found.before.items + 1) * length l.ways;
}

abbrev pub decreases-loop-place : goal.decreases-loop-place
decreases-loop-place g l = (19 * length l.ways - total l.found.before.items) * (length l.ways + 1) + left l.waiting
