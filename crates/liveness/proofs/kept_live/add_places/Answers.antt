use Rattle.std.proofs.Common.{◌∙◌, ◌<◌, length, ap, arith}
use Rattle.std.proofs.lemmas.List.{length-set}
use Rattle.liveness.proofs.Startings.{mark_next}
use Rattle.liveness.proofs.kept_live.add_places.Goals as goal

pub loop-place-preserved : goal.loop-place-preserved
loop-place-preserved c =
    let due = c.loop-place.due in
    let inside : c.loop-place.place < length due = omega (arith, c.loop-place-test.true, c.requires, c.loop-place.invariant.many) in
    record {
      many = ap length c.insert.ensures ∙ length-set due c.loop-place.place _ ∙ c.loop-place.invariant.many;
      these = mark_next due c.insert.new.self c.args.first c.loop-place.place inside c.insert.ensures c.loop-place.invariant.these;
    }
