use Rattle.command_laws.proofs.DemoOnceLemmas.{demos_once}
use Rattle.command_laws.proofs.GeneraliseOnceLemmas.{generalising_once}
use Rattle.command_laws.proofs.OnceLemmas.{learning_once, learning_by_costs_once}
use Rattle.command_laws.proofs.OutcomeLemmas.{come_to_one}
use Rattle.command_laws.proofs.laws.texts_come_to_one_outcome.Goals as goal

pub returns-clause-one : goal.returns-clause-one
returns-clause-one c = come_to_one

pub returns-clause-learning : goal.returns-clause-learning
returns-clause-learning c = learning_once

pub returns-clause-by_costs : goal.returns-clause-by_costs
returns-clause-by_costs c = learning_by_costs_once

pub returns-clause-demo : goal.returns-clause-demo
returns-clause-demo c = demos_once

pub returns-clause-generalising : goal.returns-clause-generalising
returns-clause-generalising c = generalising_once
