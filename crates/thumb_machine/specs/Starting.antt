-- How a run begins: values and memory from the state that the caller gives, and where.
use Rattle.std.specs.Prelude.{◌≡◌, ◌==◌, ℕ, nat_lt, [], slice_index, if◌then◌else◌}
use Rattle.std.specs.Int.{bit_at}
use Rattle.thumb_machine.specs.declared.machine.State.{State}
use Rattle.thumb_machine.specs.declared.world.World.{World}
use Rattle.thumb_machine.specs.declared.position.Position.{Position}
use Rattle.thumb_machine.specs.declared.position.Position.TheVariants as at
use Rattle.thumb_machine.specs.Registers.{values_of}
use Rattle.thumb_machine.specs.Memory.{memory_of}
use Rattle.thumb_model.specs.Effect.{Values, sp, lr, n_flag, z_flag, c_flag, v_flag}
use Rattle.thumb_model.specs.States.{with_bytes}

-- what each item holds; every other number is 0
abbrev pub start_values : State → Values
start_values s = λ x.
    if x == n_flag then bit_at s.nzcv 3
    else if x == z_flag then bit_at s.nzcv 2
    else if x == c_flag then bit_at s.nzcv 1
    else if x == v_flag then bit_at s.nzcv 0
    else if x == sp then s.sp
    else if x == lr then s.lr
    else if nat_lt x 13 then slice_index s.r x
    else 0

-- the run is at the beginning, at the place or address `first`: memory is 0 but for the bytes that were given
pub record Starts (s : State) (first : ℕ) (world : World) (here : Position) : Type 0 where
  pub values : values_of world.registers ≡ start_values s
  pub memory : memory_of world.memory ≡ with_bytes s.bytes (λ a. 0)
  pub events : world.events.items ≡ []
  pub at : here ≡ at.Here first
