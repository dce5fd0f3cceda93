use Rattle.call_tests.proofs.propagation.add.Goals as goal

pub returns-clause-attached : goal.returns-clause-attached
returns-clause-attached c = c.in_ok-at.ensures.added.attached c.requires.attached
