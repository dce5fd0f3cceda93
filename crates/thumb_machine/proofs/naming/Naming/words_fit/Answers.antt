use Rattle.std.proofs.Common.{◌<◌, ◌^◌, ◌∙◌, List, ℕ, get_or, subst}
use Rattle.thumb_machine.specs.Naming.{is_named}
use Rattle.thumb_machine.proofs.FitLemmas.{word_fits}
use Rattle.thumb_machine.proofs.naming.Naming.words_fit.Goals as goal

pub returns-clause-names : goal.returns-clause-names
returns-clause-names c = λ name. word_fits (is_named name) c.args.self.now.words.entries
    (λ k. subst (λ (l : List ℕ). get_or l k 0 < 2 ^ 32) (c.as_slice.ensures ∙ c.values.ensures.rest) (c.are_words.ensures k))
