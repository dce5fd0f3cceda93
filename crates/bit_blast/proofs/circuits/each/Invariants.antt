use Rattle.std.proofs.Common.{◌≡◌, take, drop, length}
use Rattle.bit_blast.specs.Circuits.{each_of, before_word}
use Rattle.bit_blast.proofs.circuits.each.Given as goal

abbrev pub invariant-loop-i : goal.invariant-loop-i
invariant-loop-i l = (length l.value ≡ 32) × (before_word (take l.i l.value) (each_of l.gate l.builder (drop l.i l.x) (drop l.i l.y)) ≡ each_of l.gate l.fn.builder l.x l.y)
