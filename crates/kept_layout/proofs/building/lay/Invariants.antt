use Rattle.std.proofs.Common.{drop, map}
use Rattle.listing_parser.specs.Views.{line_view}
use Rattle.kept_layout.specs.Cutting.{lies_at, part_footprints}
use Rattle.kept_layout.proofs.BuildingSteps.{IsBuilding}
use Rattle.kept_layout.proofs.building.lay.Given as goal

abbrev pub invariant-loop-line : goal.invariant-loop-line
invariant-loop-line l = IsBuilding (lies_at l.listing) l.base (part_footprints l.listing) l.blocks.items l.last (map line_view (drop l.line-index l.line-items))
