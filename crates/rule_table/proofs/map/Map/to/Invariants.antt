use Rattle.std.proofs.Common.{◌≡◌, take, map, Some}
use Rattle.rule_table.proofs.map.Map.to.Given as goal

abbrev pub invariant-loop-register : goal.invariant-loop-register
invariant-loop-register l = l.given.items ≡ map Some (take l.register-index l.registers)
