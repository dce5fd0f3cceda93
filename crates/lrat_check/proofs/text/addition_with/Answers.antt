use Rattle.lrat_check.specs.Reading.{words_left}
use Rattle.lrat_check.proofs.Outcomes.{addition_outcome}
use Rattle.lrat_check.proofs.text.addition_with.Goals as goal

pub returns-in-Some : goal.returns-in-Some
returns-in-Some c =
    let read = rw c.in-Some.is at c.in_ok-read_list.ensures in
    addition_outcome c.args.id c.addition_of.result (words_left c.args.rest) (words_left c.in-Some.rest) c.in-Some.literals.items read.0 read.2 c.addition_of.ensures
