use Rattle.std.proofs.Common.{length}
use Rattle.lrat_check.specs.Reading.{words_left}
use Rattle.lrat_check.proofs.Reading.{IsRead}
use Rattle.lrat_check.proofs.words.read_list.Given as goal

abbrev pub invariant-words : goal.invariant-words
invariant-words g l = IsRead g.E.ProofNumber.can_stand g.E.ProofNumber.text (words_left l.initial.rest) l.entries.items (words_left l.rest)

abbrev pub decreases-words : goal.decreases-words
decreases-words g l = length (words_left l.rest)
