use Rattle.std.proofs.Common.{◌∙◌, map, sym}
use Rattle.rule_table.specs.Views.{family_of, rule_of}
use Rattle.window_rewrite.proofs.Heads.{none_standing}
use Rattle.window_rewrite.proofs.fronts.may_stand.Goals as goal

pub returns : goal.returns
returns c = λ f. none_standing c.args.rules.now.costs.now (map rule_of c.args.rules.now.entries.now) (map family_of c.args.rules.now.families.now) c.args.rules.now.index.now c.requires.ready.index c.args.window.now c.hash_of.result c.hash_of.ensures.value (sym c.has_whole.ensures ∙ c.if-has_whole.false) (c.may_raise.ensures f)
