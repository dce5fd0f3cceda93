use Rattle.std.proofs.Common.{◌≡◌, ◌+◌, length}
use Rattle.bit_blast.specs.Differences.{low_inputs}
use Rattle.bit_blast.proofs.bits.low_inputs.Given as goal

abbrev pub invariant-loop-i : goal.invariant-loop-i
invariant-loop-i l = record {
  wide : length l.word ≡ 32;
  built : l.builder ≡ record l.fn.builder { variables = l.fn.builder.variables + l.i };
  bits : l.word ≡ low_inputs l.fn.builder.variables l.i;
}
