-- The model's memory of a machine's memory, and how many bytes it has room for.
use Rattle.std.specs.Prelude.{ℕ, nat_eq, unwrap_or}
use Rattle.std.specs.HashMap.{get, spare}
use Rattle.thumb_machine.specs.declared.memory.Memory.{Memory}

-- the byte at each address: 0 where none was written
abbrev pub memory_of : Memory → ℕ → ℕ
memory_of m = λ a. unwrap_or (get nat_eq m.bytes a) 0

-- how many bytes can be written at new addresses without another allocation
abbrev pub room_of : Memory → ℕ
room_of m = spare m.bytes
