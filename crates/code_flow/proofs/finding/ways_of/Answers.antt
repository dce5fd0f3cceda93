use Rattle.code_flow.proofs.finding.ways_of.Goals as goal

pub returns-in-Bx : goal.returns-in-Bx
returns-in-Bx c = rw c.in-Bx.is (c.branches_by.ensures c.args.place c.args.target)

pub returns-in-Blx : goal.returns-in-Blx
returns-in-Blx c = rw c.in-Blx.is (c.calls_by.ensures c.args.target)

pub returns-in-Pop : goal.returns-in-Pop
returns-in-Pop c = rw c.in-Pop.is (c.pops.ensures c.args.target)
