-- States of a window, what each holds item by item, and when a state tells two sequences apart.
use Rattle.std.specs.Prelude.{ℕ, List, ◌==◌, slice_index, if◌then◌else◌, ◌≡◌, ◌≢◌, true}
use Rattle.std.specs.Int.{bit_at}
use Rattle.window_exec.specs.declared.state.WState.{WState}
use Rattle.thumb_model.specs.Effect.{Values, n_flag, z_flag, c_flag, v_flag, after_all}
use Rattle.thumb_instr.specs.declared.instr.Instr.{Instr}
use Rattle.thumb_instr.specs.Items.{has}

-- States of a window.

-- what a state holds: r0 to r3, and the flags with N as 8, Z as 4, C as 2 and V as 1
pub record Seen : Type 0 where
  pub r : List ℕ
  pub nzcv : ℕ

-- What states hold, item by item.

-- registers from r0 on, and the flags N, Z, C, V as bits 3 to 0; every other item is 0
abbrev pub values_by : List ℕ → ℕ → Values
values_by registers nzcv = λ x.
    if x == n_flag then bit_at nzcv 3
    else if x == z_flag then bit_at nzcv 2
    else if x == c_flag then bit_at nzcv 1
    else if x == v_flag then bit_at nzcv 0
    else slice_index registers x

-- what a state of a window holds
abbrev pub values_of : WState → Values
values_of s = values_by s.r s.nzcv

-- what a state holds
abbrev pub seen : WState → Seen
seen s = record { r = s.r; nzcv = s.nzcv }

-- What tells two sequences apart.

-- some item of the mask has different values
abbrev pub Differ : Values → Values → ℕ → Type 0
Differ v w mask = (x : ℕ) × (has mask x ≡ true) × (v x ≢ w x)

-- some item of the mask differs after the two sequences
abbrev pub Tells : Values → List Instr → List Instr → ℕ → Type 0
Tells v left right mask = Differ (after_all left v) (after_all right v) mask
