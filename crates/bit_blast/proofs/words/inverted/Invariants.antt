use Rattle.std.proofs.Common.{◌≡◌, ◌++◌, take, drop, length}
use Rattle.bit_blast.specs.Words.{inverted}
use Rattle.bit_blast.proofs.words.inverted.Given as goal

abbrev pub invariant-loop-i : goal.invariant-loop-i
invariant-loop-i l = (length l.bits ≡ 32) × (take l.i l.bits ++ inverted (drop l.i l.x) ≡ inverted l.x)
