use Rattle.std.proofs.Common.{◌≡◌, take, drop, length}
use Rattle.bit_blast.specs.Circuits.{choose_each, before_word}
use Rattle.bit_blast.proofs.circuits.choose.Given as goal

abbrev pub invariant-loop-i : goal.invariant-loop-i
invariant-loop-i l = (length l.value ≡ 32) × (before_word (take l.i l.value) (choose_each l.builder l.a (drop l.i l.y) (drop l.i l.x)) ≡ choose_each l.fn.builder l.a l.y l.x)
