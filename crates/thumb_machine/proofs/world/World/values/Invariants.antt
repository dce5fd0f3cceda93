use Rattle.std.proofs.Common.{◌≡◌, ◌++◌, drop, map, length, ◌≤◌}
use Rattle.thumb_machine.specs.Registers.{values_of}
use Rattle.thumb_machine.specs.Lists.{AreRegisters}
use Rattle.thumb_machine.proofs.world.World.values.Given as goal

abbrev pub invariant-loop-register : goal.invariant-loop-register
invariant-loop-register l = record {
  completes : l.words.items ++ map (values_of l.self.registers) (drop l.register-index l.list) ≡ map (values_of l.self.registers) l.list;
  few : length l.words.items ≤ l.register-index;
  registers : AreRegisters (drop l.register-index l.list);
}
