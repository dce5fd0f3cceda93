use Rattle.std.proofs.Common.{◌∙◌, ◌<◌, ◌&&◌, not, length, ap, arith}
use Rattle.thumb_instr.specs.Items.{has}
use Rattle.liveness.specs.Live.{set_at}
use Rattle.liveness.specs.Passing.{passes_to}
use Rattle.liveness.proofs.Counts.{set_read}
use Rattle.liveness.proofs.Passings.{ways_read, keeps_told}
use Rattle.liveness.proofs.clearing.clear_place.Goals as goal

pub returns-clause-told : goal.returns-clause-told
returns-clause-told c = λ x i q a.
    let inside : c.args.before < length c.args.forward.now = omega (arith, c.requires.before, c.requires.forward) in
    keeps_told c.args.ways.now c.args.forward.now c.args.before x c.index-ways-before.result (passes_to c.args.place) c.args.items c.passed_to.result c.uses_in.result c.index-forward-before.result c.minus-lost.result (has (set_at c.clear_at.new.walk.before.sets.items c.args.before) x)
    (ways_read c.args.ways.now c.args.before c.index-ways-before.result c.requires.before c.index-ways-before.is) (set_read c.args.forward.now c.args.before c.index-forward-before.result inside c.index-forward-before.is) (c.passed_to.ensures x) (c.uses_in.ensures x)
    (c.minus-lost.ensures x ∙ ap (λ b. b && not (has c.index-forward-before.result.bits x)) (c.minus.ensures x)) (c.clear_at.ensures.told x) i q a
