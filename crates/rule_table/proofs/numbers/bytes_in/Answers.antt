use Rattle.std.proofs.Common.{map, subst, sym}
use Rattle.std.specs.Prelude.{decimal}
use Rattle.lrat_check.specs.Reading.{all_now}
use Rattle.rule_table.specs.Words.{AreWords}
use Rattle.rule_table.proofs.ListTexts.{bytes_short, number_words, made_bytes}
use Rattle.rule_table.proofs.numbers.bytes_in.Goals as goal

pub returns-in-None : goal.returns-in-None
returns-in-None c = λ ns bytes some e.
    let none = rw c.in-None.is at c.in_ok-words_in.ensures in
    none (map decimal ns) (number_words c.args.bytes.now ns (bytes_short ns bytes) some e)

pub returns-in-Some : goal.returns-in-Some
returns-in-Some c =
    let words = rw c.in-Some.is at c.in_ok-words_in.ensures in
    made_bytes (λ v. v.items) c.args.bytes.now (all_now c.deref.result.now) c.bytes_of.result
    (subst (λ ws. AreWords c.args.bytes.now (all_now ws)) (sym c.deref.ensures.value) words) c.bytes_of.ensures
