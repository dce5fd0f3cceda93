use Rattle.std.proofs.Common.{◌≡◌, take}
use Rattle.thumb_machine.proofs.lists.with_pc.Given as goal

abbrev pub invariant-loop-register : goal.invariant-loop-register
invariant-loop-register l = l.all.items ≡ take l.register-index l.list
