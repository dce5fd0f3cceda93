use Rattle.std.proofs.Common.{◌≡◌, ◌≤◌, ◌++◌, length, drop}
use Rattle.std.specs.Prelude.{filter}
use Rattle.thumb_instr.specs.Items.{has}
use Rattle.thumb_machine.specs.Lists.{AreRegisters}
use Rattle.thumb_machine.proofs.lists.found_in.Given as goal

-- the registers found so far, and those in the list among the rest
abbrev pub invariant-loop-register : goal.invariant-loop-register
invariant-loop-register l = record {
  completes : l.found.items ++ filter (has l.list) (drop l.register-index l.registers) ≡ filter (has l.list) l.registers;
  few : length l.found.items ≤ l.register-index;
  registers : AreRegisters l.found.items;
  others : AreRegisters (drop l.register-index l.registers);
}
