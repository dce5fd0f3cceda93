use Rattle.std.proofs.Common.{◌∙◌, ◌-◌, length, refl, arith}
use Rattle.std.proofs.lemmas.List.{length-set}
use Rattle.std.proofs.lemmas.Option.{slice_get_read}
use Rattle.kept_layout.specs.Blocks.{footprints_of}
use Rattle.kept_layout.proofs.BuildingWalls.{own_walls, walls_on}
use Rattle.kept_layout.proofs.calm.find_walls.Goals as goal

pub loop-behind-init : goal.loop-behind-init
loop-behind-init c = record {
  within = omega arith;
  count = c.in_ok-walls.ensures.count;
  walls = own_walls c.args.blocks.now c.in_ok-walls.walls.items c.in_ok-walls.ensures.count c.in_ok-walls.ensures.each;
}

pub loop-behind-preserved : goal.loop-behind-preserved
loop-behind-preserved c =
    let walls = c.loop-behind.walls.items in
    let within = c.loop-behind.invariant.within in
    let count = c.loop-behind.invariant.count in
    let is = slice_get_read walls (length walls) (c.loop-behind.behind - 1) c.index.result.now refl (omega arith) c.index.ensures in
    record {
      within = omega arith;
      count = length-set walls (c.loop-behind.behind - 1 - 1) c.index.result.now ∙ count;
      walls = walls_on (footprints_of c.args.blocks.now) walls (c.loop-behind.behind - 1 - 1) (c.loop-behind.behind - 1) c.index.result.now c.loop-behind.invariant.walls (omega arith) is (c.is_calm.ensures c.if-not-is_calm.false);
    }
