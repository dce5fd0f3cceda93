use Rattle.std.proofs.Common.{◌≡◌, ◌++◌, ◌-◌}
use Rattle.thumb_machine.specs.Outside.{answers_of}
use Rattle.audit_cli.specs.Trace.{answers_from}
use Rattle.audit_cli.proofs.start.answers.Given as goal

abbrev pub invariant-loop-n : goal.invariant-loop-n
invariant-loop-n l = answers_of l.list.items ++ answers_from l.n (257 - l.n) ≡ answers_from 1 256
