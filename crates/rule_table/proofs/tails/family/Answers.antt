use Rattle.std.proofs.Common.{[], ◌∷◌, map, subst, sym}
use Rattle.std.specs.Prelude.{decimal}
use Rattle.lrat_check.specs.Reading.{all_now}
use Rattle.rule_table.specs.Words.{AreWords}
use Rattle.rule_table.proofs.FamilyTexts.{family_words, made_family}
use Rattle.rule_table.proofs.tails.family.Goals as goal

pub returns-in-None : goal.returns-in-None
returns-in-None c = λ entry number low high is e.
    let none = rw c.in-None.is at c.in_ok-words_in.ensures in
    none (map decimal (entry ∷ number ∷ low ∷ high ∷ [])) (family_words c.args.tail.now entry number low high is e)

pub returns-in-Some : goal.returns-in-Some
returns-in-Some c =
    let words = rw c.in-Some.is at c.in_ok-words_in.ensures in
    made_family c.args.tail.now (all_now c.deref.result.now) c.raised_of.result
    (subst (λ ws. AreWords c.args.tail.now (all_now ws)) (sym c.deref.ensures.value) words) c.raised_of.ensures
