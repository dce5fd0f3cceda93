use Rattle.std.proofs.Common.{◌≡◌, take, drop}
use Rattle.bit_blast.specs.Circuits.{rotations_from}
use Rattle.bit_blast.proofs.shifts.rotations.Given as goal

abbrev pub invariant-loop-j : goal.invariant-loop-j
invariant-loop-j l = rotations_from l.builder l.j (drop l.j (take 5 l.amount)) l.value ≡ rotations_from l.fn.builder 0 (take 5 l.amount) l.start
