-- The states of a seed: each takes four words of the generator for r0 to r3, and the low four bits of one more for the flags.
use Rattle.std.specs.Prelude.{ℕ, ◌%◌, zero, suc, List, [], ◌∷◌}
use Rattle.rand_pcg.specs.Lcg.{Lcg, started, increment_of}
use Rattle.rand_pcg.specs.Pcg.{pcg32, multiplier_64}
use Rattle.window_exec.specs.State.{Seen}

-- the next state, and the generator after it
abbrev pub next_state : Lcg → Seen × Lcg
next_state g =
    let a = pcg32 g in
    let b = pcg32 a.1 in
    let c = pcg32 b.1 in
    let d = pcg32 c.1 in
    let f = pcg32 d.1 in
    (record { r = a.0 ∷ b.0 ∷ c.0 ∷ d.0 ∷ []; nzcv = f.0 % 16 }, f.1)

unfoldable pub states_from : ℕ → Lcg → List Seen
states_from zero g = []
states_from (suc n) g = (next_state g).0 ∷ states_from n (next_state g).1

-- the generator starts from the seed, on stream 54
abbrev pub seeded_states : ℕ → List Seen
seeded_states seed = states_from 64 (started 64 multiplier_64 seed (increment_of 64 54))
