use Rattle.lrat_check.specs.Reading.{words_left}
use Rattle.lrat_check.proofs.Outcomes.{deletion_outcome, other_outcome}
use Rattle.lrat_check.proofs.text.line_with.Goals as goal

pub returns-in-Some : goal.returns-in-Some
returns-in-Some c = deletion_outcome c.args.id c.deletion_with.result (words_left c.args.rest) (words_left c.in-Some.ids) c.in-Some.ensures c.deletion_with.ensures

pub returns-in-None : goal.returns-in-None
returns-in-None c = other_outcome c.args.id c.addition_with.result (words_left c.args.rest) c.in-None.ensures c.addition_with.ensures
