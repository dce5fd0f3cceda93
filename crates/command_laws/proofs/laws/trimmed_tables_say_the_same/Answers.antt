use Rattle.command_laws.proofs.TrimLemmas.{trimmed_accepted, trimmed_rewrite_alike, trimmed_no_longer, trimming_once, trimmed_stay}
use Rattle.command_laws.proofs.laws.trimmed_tables_say_the_same.Goals as goal

pub returns-clause-accepted : goal.returns-clause-accepted
returns-clause-accepted c = trimmed_accepted

pub returns-clause-rewriting : goal.returns-clause-rewriting
returns-clause-rewriting c = trimmed_rewrite_alike

pub returns-clause-no_longer : goal.returns-clause-no_longer
returns-clause-no_longer c = trimmed_no_longer

pub returns-clause-one : goal.returns-clause-one
returns-clause-one c = trimming_once

pub returns-clause-stay : goal.returns-clause-stay
returns-clause-stay c = trimmed_stay
