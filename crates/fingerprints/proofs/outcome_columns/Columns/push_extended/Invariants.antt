use Rattle.std.proofs.Common.{ℕ, ◌≡◌, ◌≤◌, ◌+◌, ◌-◌, ◌++◌, List, length, drop, take}
use Rattle.thumb_instr.specs.declared.instr.Instr.{Instr}
use Rattle.thumb_model.specs.Effect.{after_all, AreOver}
use Rattle.window_exec.specs.declared.state.WState.{WState}
use Rattle.window_exec.specs.State.{values_of}
use Rattle.step_ledger.specs.Counts.{RisesBy}
use Rattle.fingerprints.specs.OutcomeColumns.{extended, Holds, HaveRoom, KeepsFrom}
use Rattle.fingerprints.proofs.outcome_columns.Columns.push_extended.Given as goal

-- the outcomes with the instructions so far were appended
abbrev pub invariant-loop-instr : goal.invariant-loop-instr
invariant-loop-instr g l = record {
  over : AreOver l.k (drop l.instr-index l.alphabet);
  holds : (start : WState) (seqs : List (List Instr)) (seq : List Instr) → Holds l.k start seqs l.initial.self → KeepsFrom l.k start l.from
      → values_of l.from ≡ after_all seq (values_of start) → Holds l.k start (seqs ++ extended (take l.instr-index l.alphabet) seq) l.self;
  more : length l.initial.self.flags.items ≤ length l.self.flags.items;
  room : (more : ℕ) → HaveRoom l.k (more + length l.alphabet) l.initial.self → HaveRoom l.k (more + (length l.alphabet - l.instr-index)) l.self;
  count : RisesBy l.initial.steps l.steps l.instr-index;
}
