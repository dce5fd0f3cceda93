use Rattle.std.proofs.Common.{◌≡◌, ◌++◌, sym, ◌∙◌, ap, arith, map, append-nil}
use Rattle.window_exec.specs.State.{seen}
use Rattle.fingerprints.proofs.Seeds.{grown, states_from-none}
use Rattle.fingerprints.proofs.states.seeded_vec.Goals as goal

pub loop-turn-preserved : goal.loop-turn-preserved
loop-turn-preserved c =
    rw c.in_ok-push.ensures.items
    (grown c.loop-turn.states.items c.next_state.result c.loop-turn._turn c.loop-turn.rng c.next_state.new.rng (omega arith)
    c.next_state.ensures.value c.next_state.ensures.after
    ∙ c.loop-turn.invariant)

pub returns : goal.returns
returns c =
    let is : c.loop-turn._turn ≡ 64 = omega arith in
    sym (append-nil (map seen c.loop-turn.states.items))
    ∙ (ap (λ us. map seen c.loop-turn.states.items ++ us) (sym (states_from-none 64 c.loop-turn.rng)) ∙ rw is at c.loop-turn.invariant)
