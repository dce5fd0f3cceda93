use Rattle.std.proofs.Common.{◌+◌, ◌-◌, length}
use Rattle.step_ledger.specs.Counts.{RisesBy}
use Rattle.fingerprints.specs.OutcomeColumns.{HaveRoom}
use Rattle.fingerprints.specs.Outcomes.{sequences_below}
use Rattle.fingerprints.proofs.Growing.{IsGrown}
use Rattle.fingerprints.proofs.outcomes.Outcomes.grow.Given as goal

-- the length of the longest sequences so far
abbrev pub invariant-loop-length : goal.invariant-loop-length
invariant-loop-length g l = record {
  grown : IsGrown l.self-inside.k l.self-inside.alphabet.items l.self-inside.start l._length l.first l.columns;
  room : HaveRoom l.self-inside.k (length (sequences_below l.self-inside.alphabet.items (l.longest + 1)) - length (sequences_below l.self-inside.alphabet.items (l._length + 1))) l.columns;
  count : RisesBy l.initial.steps l.steps (length (sequences_below l.self-inside.alphabet.items (l._length + 1)) - length (sequences_below l.self-inside.alphabet.items (l.self-inside.longest + 1)));
}
