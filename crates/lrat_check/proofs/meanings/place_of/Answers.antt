use Rattle.lrat_check.proofs.Marking.{search_found, search_missed}
use Rattle.lrat_check.proofs.meanings.place_of.Goals as goal

pub returns-in-Ok-clause-place : goal.returns-in-Ok-clause-place
returns-in-Ok-clause-place c = λ p. search_found c.args.ids.now c.args.id c.binary_search.result p c.binary_search.ensures.position c.in-Ok.place c.in-Ok.is

pub returns-in-Err-clause-place : goal.returns-in-Err-clause-place
returns-in-Err-clause-place c = λ p. search_missed c.args.ids.now c.args.id c.binary_search.result p c.binary_search.ensures.position c.in-Err.field-0 c.in-Err.is
