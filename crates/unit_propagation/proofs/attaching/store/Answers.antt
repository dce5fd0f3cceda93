use Rattle.std.proofs.Common.{◌<◌, refl}
use Rattle.unit_propagation.proofs.Attached.{added}
use Rattle.unit_propagation.proofs.attaching.store.Goals as goal

pub returns : goal.returns
returns c = added c.args.arena.now c.push.new.self c.push.new.self c.in_ok-at.at c.args.literals.now c.in_ok-at.ensures.ok c.in_ok-at.ensures.later refl refl c.literals-count.ensures.whole (λ r s l n. ((λ x. x), (λ x. x)))
    (λ s l x. let b : s < 2 = (c.literals-whole.ensures.whole.slots l (c.in_ok-at.at, s) x.0 x.1).1 in absurd ((c.in_ok-at.ensures.free s b).free l x))
