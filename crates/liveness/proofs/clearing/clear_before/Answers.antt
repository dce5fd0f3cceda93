use Rattle.std.proofs.Common.{◌≡◌, ◌∙◌, ◌-◌, ap, sym, subst, arith}
use Rattle.thumb_instr.specs.Items.{has}
use Rattle.liveness.specs.Live.{set_at}
use Rattle.liveness.specs.Graph.{ways_at}
use Rattle.liveness.specs.Passing.{passes_to, Keeps}
use Rattle.liveness.proofs.clearing.clear_before.Goals as goal

pub returns-clause-told : goal.returns-clause-told
returns-clause-told c = λ p x e out i q a.
    let at : p ≡ c.args.place - 1 = omega arith in
    subst (λ y. Keeps c.args.ways.now c.args.forward.now y x) (sym at)
    (c.clear_place.ensures.told x i (ap (λ y. passes_to c.args.place (ways_at c.args.ways.now y) x) (sym at) ∙ q) (ap (λ y. has (set_at c.clear_place.new.walk.before.sets.items y) x) (sym at) ∙ a))
