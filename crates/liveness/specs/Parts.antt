-- What contracts see of `KeptLive`.
use Rattle.std.specs.Prelude.{List, Option}
use Rattle.thumb_instr.specs.declared.items.Items.{Items}
use Rattle.code_flow.specs.declared.way.Ways.{Ways}
use Rattle.liveness.specs.declared.graph.Graph.{Graph}

-- the ways of each place now, what leads to places, the live items before each place, and those that are read from it for sure
pub record Parts : Type 0 where
  pub ways : List (Option Ways)
  pub graph : Graph
  pub before : List Items
  pub forward : List Items
