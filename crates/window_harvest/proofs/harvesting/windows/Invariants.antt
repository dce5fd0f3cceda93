use Rattle.std.proofs.Common.{[], map}
use Rattle.window_harvest.specs.Harvest.{pair_of, spots, AreAdded}
use Rattle.window_harvest.specs.Keys.{AreSeen}
use Rattle.window_harvest.proofs.harvesting.windows.Given as goal

abbrev pub invariant-loop-place : goal.invariant-loop-place
invariant-loop-place l = record {
  seen : AreSeen l.pool l.seen.keys (map pair_of l.pairs.items);
  added : AreAdded (record { regs = l.regs; left = l.left; pool = l.pool }) l.listing (spots l.left l.place) [] (map pair_of l.pairs.items);
}
