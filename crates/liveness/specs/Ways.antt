-- The ways of all places of a listing.
use Rattle.std.specs.Prelude.{◌≡◌, ℕ, List, Option, Some, slice_get}
use Rattle.thumb_model.specs.Listing.{Code}
use Rattle.thumb_model.specs.Flow.{ways}
use Rattle.code_flow.specs.declared.way.Ways.{Ways}
use Rattle.code_flow.specs.Flow.{AreWays, way_list}

-- `all` has at each place its ways
abbrev pub AreAllWays : Code → List (Option Ways) → Type 0
AreAllWays code all = (p : ℕ) (ws : Option Ways) → slice_get all p ≡ Some ws → AreWays p (ways code p) (way_list ws)
