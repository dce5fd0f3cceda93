use Rattle.std.proofs.Common.{◌≡◌, ◌-◌, ◌++◌, map}
use Rattle.window_exec.specs.State.{seen}
use Rattle.fingerprints.specs.Seeded.{states_from, seeded_states}
use Rattle.fingerprints.proofs.states.seeded_vec.Given as goal

abbrev pub invariant-loop-turn : goal.invariant-loop-turn
invariant-loop-turn l = map seen l.states.items ++ states_from (64 - l._turn) l.rng ≡ seeded_states l.seed
