use Rattle.std.proofs.Common.{◌≡◌, ◌++◌, take, length}
use Rattle.bit_blast.proofs.words.of_bytes.Given as goal

abbrev pub invariant-loop-i : goal.invariant-loop-i
invariant-loop-i l = (length l.word ≡ 32) × (take l.i l.word ≡ take l.i (l.a ++ l.b ++ l.c ++ l.d))
