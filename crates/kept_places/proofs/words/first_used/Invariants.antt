use Rattle.std.proofs.Common.{◌≡◌, ℕ, ◌-◌, ◌<◌, ◌≤◌, slice_index}
use Rattle.kept_places.proofs.words.first_used.Given as goal

abbrev pub invariant-loop-word : goal.invariant-loop-word
invariant-loop-word l = (k : ℕ) → l.from ≤ k → k < l.word → slice_index l.words k ≡ 0

abbrev pub decreases-loop-word : goal.decreases-loop-word
decreases-loop-word l = l.end - l.word
