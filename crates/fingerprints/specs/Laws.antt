-- Definitions for the laws: well-formed states, sequences that no state tells apart, and a known state of the generator.
use Rattle.std.specs.Prelude.{◌≡◌, ℕ, ◌<◌, ◌^◌, List, [], ◌∷◌, All, length, slice_get, Some}
use Rattle.thumb_instr.specs.declared.instr.Instr.{Instr}
use Rattle.window_exec.specs.declared.state.WState.{WState}
use Rattle.window_exec.specs.State.{values_of, Tells}
use Rattle.fingerprints.specs.Seeded.{seeded_states}

-- a state has four registers, which hold words
abbrev pub IsState : WState → Type 0
IsState s = (length s.r ≡ 4) × All (λ w. w < 2 ^ 32) s.r

-- no state of the list tells the sequences apart
abbrev pub AreUntold : List WState → List Instr → List Instr → ℕ → Type 0
AreUntold states left right mask = All (λ s. Tells (values_of s) left right mask → ⊥) states

-- the first state of the seed 42
abbrev pub FirstOf42 : Type 0
FirstOf42 = slice_get (seeded_states 42) 0 ≡ Some (record { r = 0xa15c02b7 ∷ 0x7b47f409 ∷ 0xba1d3330 ∷ 0x83d2f293 ∷ []; nzcv = 11 })
