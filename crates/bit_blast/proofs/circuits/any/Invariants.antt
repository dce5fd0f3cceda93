use Rattle.std.proofs.Common.{◌≡◌, drop, false}
use Rattle.cnf_gates.specs.declared.bit.Bit.TheVariants.{Constant}
use Rattle.bit_blast.specs.Circuits.{any_of}
use Rattle.bit_blast.proofs.circuits.any.Given as goal

abbrev pub invariant-loop-bit : goal.invariant-loop-bit
invariant-loop-bit l = any_of l.builder (drop l.bit-index l.bits) l.any ≡ any_of l.fn.builder l.bits (Constant false)
