use Rattle.std.proofs.Common.{◌≡◌, ◌≤◌, length}
use Rattle.kept_layout.specs.Blocks.{footprints_of, AreWalls}
use Rattle.kept_layout.proofs.calm.find_walls.Given as goal

abbrev pub invariant-loop-behind : goal.invariant-loop-behind
invariant-loop-behind l = record {
  within : l.behind ≤ length l.blocks;
  count : length l.walls.items ≡ length l.blocks;
  walls : AreWalls l.walls.items (footprints_of l.blocks);
}

abbrev pub decreases-loop-behind : goal.decreases-loop-behind
decreases-loop-behind l = l.behind
