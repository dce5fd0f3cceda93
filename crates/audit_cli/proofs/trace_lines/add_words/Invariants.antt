use Rattle.std.proofs.Common.{◌≡◌, ◌++◌, take}
use Rattle.audit_cli.specs.Trace.{and_words}
use Rattle.audit_cli.proofs.trace_lines.add_words.Given as goal

abbrev pub invariant-loop-word : goal.invariant-loop-word
invariant-loop-word l = l.line.items ≡ l.initial.line.items ++ and_words (take l.word-index l.words)
