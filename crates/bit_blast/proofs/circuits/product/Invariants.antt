use Rattle.std.proofs.Common.{◌≡◌, drop, false}
use Rattle.cnf_gates.specs.declared.bit.Bit.TheVariants.{Constant}
use Rattle.bit_blast.specs.Words.{filled}
use Rattle.bit_blast.specs.Circuits.{product_from}
use Rattle.bit_blast.proofs.circuits.product.Given as goal

abbrev pub invariant-loop-j : goal.invariant-loop-j
invariant-loop-j l = product_from l.builder l.j l.x (drop l.j l.y) l.sum ≡ product_from l.fn.builder 0 l.x l.y (filled (Constant false))
