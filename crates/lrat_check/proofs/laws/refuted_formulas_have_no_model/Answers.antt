use Rattle.std.proofs.Common.{sym, ◌∙◌}
use Rattle.std.proofs.lemmas.Bool.{false≢true}
use Rattle.lrat_check.proofs.Models.{reached_holds}
use Rattle.lrat_check.proofs.laws.refuted_formulas_have_no_model.Goals as goal

pub returns : goal.returns
returns c = λ clauses state r t v e. false≢true (sym (reached_holds v clauses e state r).standing ∙ t)
