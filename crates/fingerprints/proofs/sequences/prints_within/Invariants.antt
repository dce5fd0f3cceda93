use Rattle.std.proofs.Common.{◌≡◌, ◌-◌, ◌+◌, ◌++◌}
use Rattle.fingerprints.specs.Columns.{states_in}
use Rattle.fingerprints.specs.Sequences.{prints_within}
use Rattle.fingerprints.proofs.SequenceLemmas.{prints_between}
use Rattle.fingerprints.proofs.sequences.prints_within.Given as goal

-- the prints so far, completed by the remaining lengths', are the whole
abbrev pub invariant-loop-length : goal.invariant-loop-length
invariant-loop-length l =
    l.prints.items ++ prints_between l.mask.items.bits (states_in l.columns) l.alphabet l.length (l.longest + 1 - l.length)
    ≡ prints_within l.mask.items.bits (states_in l.columns) l.alphabet l.longest
