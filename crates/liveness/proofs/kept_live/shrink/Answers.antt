use Rattle.std.proofs.Common.{List, Option, subst, arith}
use Rattle.thumb_instr.specs.declared.items.Items.{Items}
use Rattle.code_flow.specs.declared.way.Ways.{Ways}
use Rattle.liveness.specs.Clears.{Begins, IsSettledBy}
use Rattle.liveness.proofs.Clearings.{begun, ended}
use Rattle.liveness.proofs.kept_live.shrink.Goals as goal

pub returns-clause-shrunk : goal.returns-clause-shrunk
returns-clause-shrunk c = λ t by unlabelled reads writes ahead exact p x h.
    let k = c.args.kept.now in
    let old = c.args.window.old in
    let fresh = c.args.window.fresh in
    let begins = subst (λ (f : List Items). Begins old fresh f k.walk c.begin.new.walk) c.as_slice.ensures.value c.begin.ensures.begins in
    let settled = subst (λ (ws : List (Option Ways)). IsSettledBy ws k.graph k.forward old c.begin.new.walk c.clear.new.walk) c.as_slice-2.ensures.value c.clear.ensures.settled in
    ended t k.ways.items k.graph k.forward.sets.items old by ahead c.clear.new.walk c.clear.ensures.done x
    (settled t by (begun t k.ways.items k.graph k.forward.sets.items old fresh by unlabelled (omega (arith, by.first, by.end, c.requires.some)) reads writes k.walk c.begin.new.walk begins exact) x) p h
