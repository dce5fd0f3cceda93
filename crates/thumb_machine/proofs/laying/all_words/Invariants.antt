use Rattle.thumb_machine.proofs.WordLemmas.{SoManyOwn}
use Rattle.thumb_machine.proofs.laying.all_words.Given as goal

abbrev pub invariant-loop-place : goal.invariant-loop-place
invariant-loop-place l = SoManyOwn l.layout.base l.listing l.place l.count l.words.entries
