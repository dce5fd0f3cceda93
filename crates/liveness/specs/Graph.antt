-- The predecessors of each place, and the places from which a way leads to any code point, as tables.
use Rattle.std.specs.Prelude.{◌≡◌, ℕ, suc, ◌+◌, ◌<◌, ◌≤◌, ◌==◌, ◌||◌, Bool, true, false, List, [], ◌∷◌, length, Option, Some, None, slice_get, if◌then◌else◌}
use Rattle.thumb_instr.specs.Items.{one_of}
use Rattle.thumb_model.specs.Listing.{Code}
use Rattle.code_flow.specs.declared.way.Next.{Next}
use Rattle.code_flow.specs.declared.way.Next.TheVariants.{Place, Points, Out}
use Rattle.code_flow.specs.declared.way.Way.{Way}
use Rattle.code_flow.specs.declared.way.Ways.{Ways}
use Rattle.code_flow.specs.Flow.{way_list}
use Rattle.liveness.specs.declared.graph.Jump.{Jump}
use Rattle.liveness.specs.declared.graph.Callers.{Callers}
use Rattle.liveness.specs.declared.graph.Graph.{Graph}
use Rattle.liveness.specs.Ways.{AreAllWays}
use Rattle.code_flow.specs.Points.{HasPoints}

-- ---- ways ----

-- whether a way leads to the place, and whether some way does
abbrev pub leads_to : ℕ → Next → Bool
leads_to p (Place q) = q == p
leads_to p Points = false
leads_to p Out = false

abbrev pub some_leads : ℕ → List Way → Bool
some_leads p [] = false
some_leads p (w ∷ ws) = leads_to p w.next || some_leads p ws

-- whether a way leads to any code point, and whether some way does
abbrev pub is_return : Next → Bool
is_return (Place q) = false
is_return Points = true
is_return Out = false

abbrev pub some_return : List Way → Bool
some_return [] = false
some_return (w ∷ ws) = is_return w.next || some_return ws

-- the place that the first way leads to, where that isn't the next one
abbrev pub other_than : ℕ → Next → Option ℕ
other_than next (Place q) = if q == next then None else Some q
other_than next Points = None
other_than next Out = None

abbrev pub jump_from : ℕ → List Way → Option ℕ
jump_from next [] = None
jump_from next (w ∷ ws) = other_than next w.next

-- the ways of a place
abbrev pub ways_in : Option (Option Ways) → List Way
ways_in None = []
ways_in (Some ws) = way_list ws

abbrev pub ways_at : List (Option Ways) → ℕ → List Way
ways_at all p = ways_in (slice_get all p)

-- a jump leads from q to t
abbrev pub JumpsTo : List (Option Ways) → ℕ → ℕ → Type 0
JumpsTo all t q = jump_from (q + 1) (ways_at all q) ≡ Some t

-- ---- jumps to a place ----

-- `number` is that of the last jump to t from a place before n, counted from 1, or 0 where there is none
pub record IsLast (all : List (Option Ways)) (jumps : List Jump) (t n number : ℕ) : Type 0 where
  pub within : number ≤ length jumps
  pub jump : (k : ℕ) (j : Jump) → number ≡ suc k → slice_get jumps k ≡ Some j → (j.place < n) × JumpsTo all t j.place
  pub others : (q : ℕ) → q < n → JumpsTo all t q → (k : ℕ) × (j : Jump) × (number ≡ suc k) × (slice_get jumps k ≡ Some j) × (q ≤ j.place)

-- the k-th jump, from a place before n: it knows the one before it to the same place
pub record IsJump (all : List (Option Ways)) (jumps : List Jump) (n k : ℕ) (j : Jump) : Type 0 where
  pub below : j.place < n
  pub before : j.earlier ≤ k
  pub earlier : (t : ℕ) → JumpsTo all t j.place → IsLast all jumps t j.place j.earlier

-- the jumps from places before n
pub record AreCallers (all : List (Option Ways)) (n : ℕ) (c : Callers) : Type 0 where
  pub as_many : length c.last.items ≡ length all
  pub few : length c.jumps.items ≤ n
  pub last : (t number : ℕ) → slice_get c.last.items t ≡ Some number → IsLast all c.jumps.items t n number
  pub jumps : (k : ℕ) (j : Jump) → slice_get c.jumps.items k ≡ Some j → IsJump all c.jumps.items n k j

-- ---- all ----

-- the places before n from which a way leads to any code point
pub record AreReturns (all : List (Option Ways)) (n : ℕ) (returns : List ℕ) : Type 0 where
  pub all_of_them : (q : ℕ) → q < n → some_return (ways_at all q) ≡ true → one_of q returns ≡ true
  pub within : (q : ℕ) → one_of q returns ≡ true → q < n

-- g is the graph of a listing, and `all` has the ways of its places
pub record IsGraph (code : Code) (all : List (Option Ways)) (g : Graph) : Type 0 where
  pub as_many : length all ≡ length code.places
  pub ways : AreAllWays code all
  pub marks : length all ≤ length g.is_point.items
  pub points : HasPoints code g.is_point.items
  pub callers : AreCallers all (length all) g.callers
  pub returns : AreReturns all (length all) g.returns.items
