use Rattle.command_laws.proofs.CarriedLemmas.{fit_carried_out, fit_learnt_from}
use Rattle.command_laws.proofs.laws.fit_texts_are_carried_out.Goals as goal

pub returns-clause-carried_out : goal.returns-clause-carried_out
returns-clause-carried_out c = fit_carried_out

pub returns-clause-learnt : goal.returns-clause-learnt
returns-clause-learnt c = fit_learnt_from
