use Rattle.std.proofs.Common.{◌≡◌, take, drop}
use Rattle.bit_blast.specs.Circuits.{before_word}
use Rattle.bit_blast.specs.Differences.{register_differences}
use Rattle.bit_blast.proofs.sides.register_differences.Given as goal

abbrev pub invariant-loop-register : goal.invariant-loop-register
invariant-loop-register l =
    before_word l.found.items (register_differences l.builder l.mask.items.bits l.register (drop l.register (take 4 l.x.r)) (drop l.register (take 4 l.y.r)))
    ≡ register_differences l.fn.builder l.mask.items.bits 0 (take 4 l.x.r) (take 4 l.y.r)
