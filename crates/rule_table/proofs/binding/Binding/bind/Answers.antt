use Rattle.std.proofs.Common.{sym, ◌∙◌}
use Rattle.rule_table.proofs.BindingLemmas.{bound_already}
use Rattle.rule_table.proofs.binding.Binding.bind.Goals as goal

pub returns-in-Some : goal.returns-in-Some
returns-in-Some c = bound_already c.args.self.now c.args.own c.args.other c.in-Some.register (sym c.get.ensures ∙ c.in-Some.is)
