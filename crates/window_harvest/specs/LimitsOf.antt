-- The limits and the places of windows as the code holds them.
use Rattle.std.specs.Prelude.{◌≡◌, false, List}
use Rattle.thumb_model.specs.Listing.{ListingLine, code_of}
use Rattle.liveness.specs.Live.{Sets, IsLive}
use Rattle.window_harvest.specs.declared.adding.Limits.{Limits as CodeLimits}
use Rattle.window_runs.specs.declared.rows.WindowPlace.{WindowPlace}
use Rattle.window_runs.specs.Rows.{rows_from}
use Rattle.window_harvest.specs.Harvest.{Limits}

abbrev pub limits_of : CodeLimits → Limits
limits_of l = record { regs = l.regs; left = l.left; pool = l.pool.now }

-- the rows and the sets of live items are those of the lines
pub record AreOf (lines : List ListingLine) (rows : List WindowPlace) (sets : Sets) : Type 0 where
  pub rows_are : rows ≡ rows_from false lines
  pub live : IsLive (code_of lines) sets
