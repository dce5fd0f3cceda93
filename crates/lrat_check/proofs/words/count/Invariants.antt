use Rattle.std.proofs.Common.{length}
use Rattle.lrat_check.specs.Reading.{words_left}
use Rattle.lrat_check.proofs.words.count.Given as goal

abbrev pub decreases-words : goal.decreases-words
decreases-words l = length (words_left l.rest)
