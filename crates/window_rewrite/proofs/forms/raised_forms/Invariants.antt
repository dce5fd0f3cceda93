use Rattle.std.proofs.Common.{◌≡◌, map, take}
use Rattle.rule_table.specs.Views.{family_of, rule_of}
use Rattle.window_rewrite.specs.Rules.{raised_forms}
use Rattle.window_rewrite.proofs.forms.raised_forms.Given as goal

abbrev pub invariant-loop-family : goal.invariant-loop-family
invariant-loop-family l = l.forms.items ≡ raised_forms (map rule_of l.entries) (map family_of (take l.family-index l.families))
