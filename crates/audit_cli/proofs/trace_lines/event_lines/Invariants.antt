use Rattle.std.proofs.Common.{◌≡◌, map, take}
use Rattle.thumb_machine.specs.Outside.{event_of}
use Rattle.audit_cli.specs.Trace.{event_lines}
use Rattle.audit_cli.proofs.trace_lines.event_lines.Given as goal

abbrev pub invariant-loop-event : goal.invariant-loop-event
invariant-loop-event l = l.lines.items ≡ event_lines (map event_of (take l.event-index l.events))
