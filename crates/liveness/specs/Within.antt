-- What is required of a graph whatever the code is: its numbers are in range, and its jumps are listed.
use Rattle.std.specs.Prelude.{◌≡◌, ℕ, ◌+◌, ◌<◌, ◌≤◌, true, List, length, Option, Some, slice_get, ◌⊎◌}
use Rattle.thumb_instr.specs.Items.{one_of}
use Rattle.code_flow.specs.declared.way.Ways.{Ways}
use Rattle.liveness.specs.declared.graph.Jump.{Jump}
use Rattle.liveness.specs.declared.graph.Callers.{Callers}
use Rattle.liveness.specs.declared.graph.Graph.{Graph}
use Rattle.liveness.specs.Graph.{some_leads, ways_at, JumpsTo, AreCallers}

-- the jumps lead from and to the n places
pub record AreWithin (n : ℕ) (c : Callers) : Type 0 where
  pub as_many : length c.last.items ≡ n
  pub last : (t number : ℕ) → slice_get c.last.items t ≡ Some number → number ≤ length c.jumps.items
  pub places : (k : ℕ) (j : Jump) → slice_get c.jumps.items k ≡ Some j → j.place < n
  pub earlier : (k : ℕ) (j : Jump) → slice_get c.jumps.items k ≡ Some j → j.earlier ≤ k

-- a graph of n places
pub record IsInside (n : ℕ) (g : Graph) : Type 0 where
  pub marks : n ≤ length g.is_point.items
  pub callers : AreWithin n g.callers
  pub returns : (q : ℕ) → one_of q g.returns.items ≡ true → q < n

-- a way that leads to a place comes from right before it or is a jump, and all jumps are listed
pub record IsWired (all : List (Option Ways)) (c : Callers) : Type 0 where
  pub told : (p q : ℕ) → some_leads p (ways_at all q) ≡ true → (q + 1 ≡ p) ⊎ JumpsTo all p q
  pub callers : AreCallers all (length all) c
