use Rattle.std.proofs.Common.{◌≡◌, take, drop}
use Rattle.bit_blast.specs.Circuits.{stages_from}
use Rattle.bit_blast.proofs.shifts.stages.Given as goal

abbrev pub invariant-loop-j : goal.invariant-loop-j
invariant-loop-j l = stages_from l.kind l.builder l.j (drop l.j (take 6 l.amount)) l.s ≡ stages_from l.kind l.fn.builder 0 (take 6 l.amount) l.fn.start
