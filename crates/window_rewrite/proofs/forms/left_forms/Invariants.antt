use Rattle.std.proofs.Common.{◌≡◌, take}
use Rattle.window_rewrite.specs.Rules.{left_forms, rules_in}
use Rattle.window_rewrite.proofs.forms.left_forms.Given as goal

abbrev pub invariant-loop-entry : goal.invariant-loop-entry
invariant-loop-entry l = l.forms.items ≡ left_forms (rules_in (take l.entry-index l.entries))
