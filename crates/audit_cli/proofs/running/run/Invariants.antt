use Rattle.std.proofs.Common.{◌≡◌}
use Rattle.thumb_model.specs.Listing.{Code}
use Rattle.thumb_model.specs.Naming.{Naming}
use Rattle.thumb_machine.specs.Positions.{state_of}
use Rattle.thumb_machine.specs.Running.{IsProgram}
use Rattle.audit_cli.proofs.RunningLemmas.{SoFar}
use Rattle.audit_cli.proofs.running.run.Given as goal

abbrev pub invariant-loop-taken : goal.invariant-loop-taken
invariant-loop-taken l = record {
  program : l.machine.program ≡ l.initial.machine.program;
  far : (names : Naming) (code : Code) → IsProgram names code l.initial.machine.program → SoFar names code (state_of l.initial.machine.world l.initial.machine.at l.initial.answers) l.taken l.machine l.answers;
}
