use Rattle.std.proofs.Common.{◌≡◌, ◌++◌, ◌∷◌, codes}
use Rattle.audit_cli.specs.Demo.{windows_text}
use Rattle.audit_cli.proofs.demo.demo_text.Given as goal

abbrev pub invariant-loop-i : goal.invariant-loop-i
invariant-loop-i l = l.text.items ≡ codes "demo:" ++ 10 ∷ windows_text l.i
