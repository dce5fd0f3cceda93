use Rattle.std.proofs.Common.{◌-◌, ◌≤◌, length, refl, arith}
use Rattle.std.proofs.lemmas.Option.{slice_get_read}
use Rattle.liveness.proofs.Jumps.{none_told, jump_told}
use Rattle.liveness.proofs.Waits.{more_same, more_on}
use Rattle.liveness.proofs.settling.tell_callers.Goals as goal

pub loop-rest-init : goal.loop-rest-init
loop-rest-init c = record {
  more = more_same c.args.waiting.now c.requires.waiting;
  told = none_told c.args._ways.now c.args.callers.now c.args.place c.index-rest.result.now c.args.waiting.now.marks.items c.requires.callers
      (slice_get_read c.args.callers.now.last.items _ c.args.place c.index-rest.result.now refl (omega (arith, c.requires.place, c.requires.callers.as_many)) c.index-rest.ensures);
}

pub loop-rest-preserved : goal.loop-rest-preserved
loop-rest-preserved c =
    let jumps = c.args.callers.now.jumps.items in
    let some = c.loop-rest-test.true in
    let within : c.loop-rest.rest ≤ length jumps = c.loop-rest.invariant.told.1.within in
    record {
      more = more_on c.args.waiting.now c.loop-rest.waiting c.push.new.self c.loop-rest.invariant.more c.in_ok-push.ensures.more;
      told = jump_told c.args._ways.now (length c.args._ways.now) c.args.callers.now c.args.place c.loop-rest.rest (c.loop-rest.rest - 1) c.index-jump.result.now c.loop-rest.waiting.marks.items c.push.new.self.marks.items c.requires.callers
          (slice_get_read jumps _ (c.loop-rest.rest - 1) c.index-jump.result.now refl (omega arith) c.index-jump.ensures) (omega arith) c.loop-rest.invariant.told c.in_ok-push.ensures.more.kept c.in_ok-push.ensures.here;
    }
