use Rattle.std.proofs.Common.{◌≡◌, take}
use Rattle.rule_table.proofs.map.Map.of.Given as goal

abbrev pub invariant-loop-register : goal.invariant-loop-register
invariant-loop-register l = l.registers.items ≡ take l.register-index l.given
