use Rattle.std.proofs.Common.{◌≡◌, ◌≤◌, length, drop}
use Rattle.thumb_model.specs.States.{with_bytes}
use Rattle.thumb_machine.specs.Memory.{memory_of, room_of}
use Rattle.thumb_machine.proofs.memory.Memory.put_bytes.Given as goal

-- the bytes that are left complete the memory, and there is room for them
abbrev pub invariant-loop-byte : goal.invariant-loop-byte
invariant-loop-byte l = record {
  room : length (drop l.byte-index l.bytes) ≤ room_of l.self;
  completes : with_bytes (drop l.byte-index l.bytes) (memory_of l.self) ≡ with_bytes l.bytes (memory_of l.fn.self);
}
