use Rattle.unit_propagation.proofs.Compacted.{compacted_rule, compacted_attached}
use Rattle.unit_propagation.proofs.laws.compaction_keeps_the_rule.Goals as goal

pub returns-clause-rule : goal.returns-clause-rule
returns-clause-rule c = λ earlier later held moved w h p a r. compacted_rule earlier later held moved w h p a r

pub returns-clause-attached : goal.returns-clause-attached
returns-clause-attached c = λ earlier later held moved w h t. compacted_attached earlier later held moved w h t
