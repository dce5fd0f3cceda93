use Rattle.std.proofs.Common.{◌≡◌, ◌-◌, Some, refl, arith}
use Rattle.std.specs.Prelude.{slice_get}
use Rattle.std.proofs.lemmas.Option.{slice_get_read}
use Rattle.liveness.proofs.Callers.{jump_done}
use Rattle.liveness.proofs.Walks.{ToldOff, clears_on}
use Rattle.liveness.proofs.clearing.clear_callers.Goals as goal

pub loop-rest-preserved : goal.loop-rest-preserved
loop-rest-preserved c =
    let all = c.args.ways.now in
    let jumps = c.args.callers.now.jumps.items in
    let some = c.loop-rest-test.true in
    let within = c.loop-rest.invariant.within in
    let at : slice_get jumps (c.loop-rest.rest - 1) ≡ Some c.index-jump.result.now = slice_get_read jumps _ (c.loop-rest.rest - 1) c.index-jump.result.now refl (omega arith) c.index-jump.ensures in
    let less = c.requires.callers.earlier (c.loop-rest.rest - 1) c.index-jump.result.now at in
    record {
      fit = c.clear_place.ensures.fit;
      on = clears_on c.args.walk.now c.loop-rest.walk c.clear_place.new.walk c.loop-rest.invariant.on c.clear_place.ensures.on;
      within = omega (arith, less, within);
      told = λ a. jump_done all c.args.callers.now c.args.place c.loop-rest.rest (c.loop-rest.rest - 1) c.index-jump.result.now (ToldOff all c.args.forward.now c.args.place c.args.items c.loop-rest.walk) (ToldOff all c.args.forward.now c.args.place c.args.items c.clear_place.new.walk) a at (omega arith) (c.loop-rest.invariant.told a)
          (λ q h d x i p b. d x i p (c.clear_place.ensures.on.fewer q x b)) (λ h x i p b. c.clear_place.ensures.told x i p b);
    }
