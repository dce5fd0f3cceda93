use Rattle.std.proofs.Common.{◌≡◌}
use Rattle.cnf_gates.specs.Meaning.{assigned}
use Rattle.bit_blast.specs.Differences.{variables_from}
use Rattle.bit_blast.specs.Exactness.{number_of}
use Rattle.bit_blast.proofs.state.number.Given as goal

-- `number` is the number of the bits read so far
abbrev pub invariant-loop-i : goal.invariant-loop-i
invariant-loop-i l = l.number ≡ number_of (assigned l.model) (variables_from l.first l.i)
