use Rattle.std.proofs.Common.{◌≡◌, drop, true}
use Rattle.cnf_gates.specs.declared.bit.Bit.TheVariants.{Constant}
use Rattle.bit_blast.specs.Circuits.{none_of}
use Rattle.bit_blast.proofs.circuits.none.Given as goal

abbrev pub invariant-loop-bit : goal.invariant-loop-bit
invariant-loop-bit l = none_of l.builder (drop l.bit-index l.bits) l.none ≡ none_of l.fn.builder l.bits (Constant true)
