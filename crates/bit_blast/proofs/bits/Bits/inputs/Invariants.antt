use Rattle.std.proofs.Common.{◌≡◌, ◌*◌, []}
use Rattle.bit_blast.specs.Differences.{words_from}
use Rattle.bit_blast.proofs.bits.Bits.inputs.Given as goal

abbrev pub invariant-loop-i : goal.invariant-loop-i
invariant-loop-i l = record {
  built : l.builder ≡ record { variables = 32 * l.i; clauses = []; gates = [] };
  words : l.registers.items ≡ words_from 0 l.i;
}
