use Rattle.std.proofs.Common.{◌≡◌, ℕ, ◌<◌, length, slice_index}
use Rattle.kept_places.proofs.leading.to_themselves.Given as goal

abbrev pub invariant-loop-place : goal.invariant-loop-place
invariant-loop-place l = record { as_many : length l.next.items ≡ l.place; same : (p : ℕ) → p < l.place → slice_index l.next.items p ≡ p }
