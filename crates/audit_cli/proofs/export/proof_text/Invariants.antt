use Rattle.std.proofs.Common.{◌≡◌, take, map}
use Rattle.lrat_check.specs.Text.{content_of}
use Rattle.audit_cli.specs.Tables.{proof_text}
use Rattle.audit_cli.proofs.export.proof_text.Given as goal

abbrev pub invariant-loop-line : goal.invariant-loop-line
invariant-loop-line l = l.text.items ≡ proof_text (map content_of (take l.line-index l.lines))
