use Rattle.std.proofs.Common.{ℕ, ◌≡◌, ◌≤◌, ◌+◌, ◌-◌, ◌*◌, ◌++◌, List, length, take}
use Rattle.std.specs.List.{flat_map}
use Rattle.thumb_instr.specs.declared.instr.Instr.{Instr}
use Rattle.step_ledger.specs.Counts.{RisesBy}
use Rattle.fingerprints.specs.OutcomeColumns.{extended, HaveRoom, Holds}
use Rattle.fingerprints.proofs.outcome_columns.Columns.push_length.Given as goal

-- the longest sequences before this place were extended by each instruction
abbrev pub invariant-loop-place : goal.invariant-loop-place
invariant-loop-place g l = record {
  holds : (shorter longest : List (List Instr)) → length shorter ≡ l.first → Holds l.k l.start (shorter ++ longest) l.initial.self
      → Holds l.k l.start (shorter ++ longest ++ flat_map (extended l.alphabet) (take (l.place - l.first) longest)) l.self;
  more : length l.initial.self.flags.items ≤ length l.self.flags.items;
  room : (more : ℕ) → HaveRoom l.k (more + (length l.initial.self.flags.items - l.first) * length l.alphabet) l.initial.self
      → HaveRoom l.k (more + (length l.initial.self.flags.items - l.place) * length l.alphabet) l.self;
  count : RisesBy l.initial.steps l.steps ((l.place - l.first) * length l.alphabet);
}
