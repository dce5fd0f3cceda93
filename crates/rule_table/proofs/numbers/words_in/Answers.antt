use Rattle.std.proofs.Common.{◌≡◌, ◌∙◌, ℕ, List, [], ◌∷◌, ap, sym, Option, Some, None}
use Rattle.rule_table.specs.Fronts.{strip}
use Rattle.rule_table.specs.Words.{AreWords}
use Rattle.rule_table.proofs.FrontLemmas.{strip_sound}
use Rattle.rule_table.proofs.numbers.words_in.Goals as goal

some_none : (t : List ℕ) → ◌≡◌ {A = Option (List ℕ)} (Some t) None → ⊥
some_none t e = cc

no_words : (bs : List ℕ) (words : List (List ℕ)) → strip (32 ∷ []) bs ≡ None → AreWords bs words → ⊥
no_words bs words e a = some_none a.rest (sym (ap (strip (32 ∷ [])) a.is) ∙ e)

pub returns-in-None : goal.returns-in-None
returns-in-None c = λ words are. no_words c.args.bytes.now words (sym c.in-None.ensures) are

pub returns-in_ok-words-in-Some : goal.returns-in_ok-words-in-Some
returns-in_ok-words-in-Some c = record { rest = c.in-Some.rest.now; is = strip_sound (32 ∷ []) c.args.bytes.now c.in-Some.rest.now (sym c.in-Some.ensures); parts = c.in_ok-words-in-Some.ensures }
