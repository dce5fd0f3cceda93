-- Clearing the bits above the flags changes no item.
use Rattle.std.proofs.Common.{◌≡◌, ◌==◌, ℕ, ◌%◌, List, arith, slice_index, if◌then◌else◌}
use Rattle.std.specs.Int.{bit_at}
use Rattle.thumb_model.specs.Effect.{Values, n_flag, z_flag, c_flag, v_flag}
use Rattle.window_exec.specs.declared.state.WState.{WState}
use Rattle.window_exec.specs.State.{values_of}

-- registers beside four flags
abbrev pub held : List ℕ → ℕ → ℕ → ℕ → ℕ → Values
held r n z c v = λ x. if x == n_flag then n else if x == z_flag then z else if x == c_flag then c else if x == v_flag then v else slice_index r x

held_same : (r : List ℕ) (n n' z z' c c' v v' : ℕ) → n ≡ n' → z ≡ z' → c ≡ c' → v ≡ v' → held r n z c v ≡ held r n' z' c' v'
held_same r n n' z z' c c' v v' p q s t = λ i. held r (p i) (q i) (s i) (t i)

low_bits : (r : List ℕ) (f : ℕ) → held r (bit_at (f % 16) 3) (bit_at (f % 16) 2) (bit_at (f % 16) 1) (bit_at (f % 16) 0) ≡ held r (bit_at f 3) (bit_at f 2) (bit_at f 1) (bit_at f 0)
low_bits r f = held_same r (bit_at (f % 16) 3) (bit_at f 3) (bit_at (f % 16) 2) (bit_at f 2) (bit_at (f % 16) 1) (bit_at f 1) (bit_at (f % 16) 0) (bit_at f 0) (omega arith) (omega arith) (omega arith) (omega arith)

pub flags_alone : (s : WState) → values_of (record { r = s.r; nzcv = s.nzcv % 16 }) ≡ values_of s
flags_alone s = low_bits s.r s.nzcv
