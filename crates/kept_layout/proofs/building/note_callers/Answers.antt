use Rattle.std.proofs.Common.{◌∙◌, ◌<◌, length, slice_set, sym, arith}
use Rattle.kept_layout.specs.Blocks.{footprint_of}
use Rattle.kept_layout.proofs.BuildingCallers.{as_many, met_there, none_known, noted_there, noted_footprints, noted_starts, noted_known, noted_callers, footprint_here}
use Rattle.kept_layout.proofs.building.note_callers.Goals as goal

pub loop-number-preserved-in_default : goal.loop-number-preserved-in_default
loop-number-preserved-in_default c =
    let ss = c.loop-number.blocks.items in
    let n = c.loop-number.number in
    let own = c.index.result.now in
    let many = as_many ss c.args.blocks.now.items c.loop-number.invariant.footprints in
    record {
      footprints = c.loop-number.invariant.footprints;
      starts = c.loop-number.invariant.starts;
      known = none_known n (footprint_of own) ss (footprint_here ss n own (omega (arith, many, c.loop-number-test.true, c.len-number-end.ensures)) c.index.ensures) (sym c.mentioned.ensures ∙ c.in_default.is) c.loop-number.invariant.known;
      callers = c.loop-number.invariant.callers;
    }

pub index_mut-requires : goal.index_mut-requires
index_mut-requires c =
    let low =
    met_there c.loop-number.blocks.items c.args.blocks.now.items c.loop-number.number c.in-Some.met c.index.result.now c.requires.met c.loop-number.invariant.footprints
    (omega (arith, c.loop-number-test.true, c.len-number-end.ensures)) c.index.ensures c.in-Some.ensures in
    omega (arith, low)

pub loop-number-preserved : goal.loop-number-preserved
loop-number-preserved c =
    let ss = c.loop-number.blocks.items in
    let n = c.loop-number.number in
    let t = c.in-Some.met in
    let own = c.index.result.now in
    let old = c.index_mut.result.now in
    let new = c.add_caller.new.block in
    let many = as_many ss c.args.blocks.now.items c.loop-number.invariant.footprints in
    let below : n < length c.args.blocks.now.items = omega (arith, c.loop-number-test.true, c.len-number-end.ensures) in
    let low = met_there ss c.args.blocks.now.items n t own c.requires.met c.loop-number.invariant.footprints below c.index.ensures c.in-Some.ensures in
    let noted = noted_there ss n t own old new (omega arith) low c.index.ensures c.in-Some.ensures c.index_mut.ensures.value c.add_caller.ensures.at c.add_caller.ensures.footprint c.in_ok-add_caller.ensures.callers in
    record {
      footprints = noted_footprints n t (footprint_of own) old new ss (slice_set ss t new) noted ∙ c.loop-number.invariant.footprints;
      starts = noted_starts n t (footprint_of own) old new ss (slice_set ss t new) noted ∙ c.loop-number.invariant.starts;
      known = noted_known n t (footprint_of own) old new ss (slice_set ss t new) noted c.loop-number.invariant.known;
      callers = noted_callers n t (footprint_of own) old new ss (slice_set ss t new) noted c.loop-number.invariant.callers;
    }
