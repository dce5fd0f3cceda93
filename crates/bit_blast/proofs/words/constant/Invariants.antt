use Rattle.std.proofs.Common.{◌≡◌, ◌-◌, ◌++◌, take, length}
use Rattle.bit_blast.specs.Words.{number_bits, constant}
use Rattle.bit_blast.proofs.words.constant.Given as goal

abbrev pub invariant-loop-i : goal.invariant-loop-i
invariant-loop-i l = (length l.bits ≡ 32) × (take l.i l.bits ++ number_bits (32 - l.i) l.rest ≡ constant l.number)
