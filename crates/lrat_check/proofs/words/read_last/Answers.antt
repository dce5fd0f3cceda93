use Rattle.lrat_check.specs.Reading.{words_left}
use Rattle.lrat_check.proofs.Reading.{read_on, words_follow}
use Rattle.lrat_check.proofs.words.read_last.Goals as goal

pub returns-else-is_none : goal.returns-else-is_none
returns-else-is_none g c = λ xs h n e.
    let read = rw c.in-Some.is at c.in_ok-entries.ensures in
    read_on g.E.ProofNumber.can_stand g.E.ProofNumber.text (words_left c.args.rest) (words_left c.in-Some.rest) c.in-Some.entries.items xs read.1 read.2 (words_follow c.in-Some.rest c.if-is_none.ensures) n e
