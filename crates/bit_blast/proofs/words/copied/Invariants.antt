use Rattle.std.proofs.Common.{◌≡◌, take, length}
use Rattle.bit_blast.proofs.words.copied.Given as goal

abbrev pub invariant-loop-i : goal.invariant-loop-i
invariant-loop-i l = (length l.bits ≡ 32) × (take l.i l.bits ≡ take l.i l.x)
