use Rattle.rule_table.proofs.Progress.{not_both, refused_once}
use Rattle.rule_table.proofs.laws.refusals_are_one.Goals as goal

pub returns : goal.returns
returns c = record { not_both = not_both; once = refused_once }
