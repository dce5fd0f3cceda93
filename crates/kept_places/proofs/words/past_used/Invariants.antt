use Rattle.std.proofs.Common.{◌≡◌, ℕ, ◌<◌, ◌≤◌, slice_index}
use Rattle.kept_places.proofs.words.past_used.Given as goal

abbrev pub invariant-loop-past : goal.invariant-loop-past
invariant-loop-past l = record { within : l.past ≤ l.fn.past; behind : (k : ℕ) → l.past ≤ k → k < l.fn.past → slice_index l.words k ≡ 0 }

abbrev pub decreases-loop-past : goal.decreases-loop-past
decreases-loop-past l = l.past
