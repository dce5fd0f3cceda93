-- The exit codes of the statuses, and the outcomes of the code as those of the definitions.
use Rattle.std.specs.Prelude.{ℕ, string_bytes, map}
use Rattle.command_runs.specs.declared.status.Status.{Status}
use Rattle.command_runs.specs.declared.status.Status.TheVariants as status
use Rattle.command_runs.specs.declared.outcome.KeptText.{KeptText}
use Rattle.command_runs.specs.declared.outcome.Outcome.{Outcome}
use Rattle.command_runs.specs.declared.outcome.Outcome.TheVariants as outcome
use Rattle.command_runs.specs.Plans.{Keep, Outcome as Comes, Refuses, Does}

-- the number that the process ends with
abbrev pub code_of : Status → ℕ
code_of status.Done = 0
code_of status.Refused = 1
code_of status.Usage = 2
code_of status.StoreFault = 3
code_of status.SinkFault = 4
code_of status.Memory = 5
code_of status.TooBig = 6
code_of status.Missing = 7

-- a name and its bytes
abbrev pub keep_view : KeptText → Keep
keep_view d = (string_bytes d.name, d.text.items)

-- an outcome with its strings as bytes
abbrev pub outcome_view : Outcome → Comes
outcome_view (outcome.Refuses line) = Refuses line.items
outcome_view (outcome.Does keeps lines) = Does (map keep_view keeps.items) lines.items
