use Rattle.std.proofs.Common.{◌≡◌, map, drop}
use Rattle.thumb_syntax.specs.Operands.{register_in}
use Rattle.thumb_syntax.specs.RegisterView.{named}
use Rattle.thumb_syntax.proofs.registers.number_in.Given as goal

abbrev pub invariant-loop-register : goal.invariant-loop-register
invariant-loop-register l = register_in (map named (drop l.register-index l.registers)) l.word ≡ register_in (map named l.registers) l.word
