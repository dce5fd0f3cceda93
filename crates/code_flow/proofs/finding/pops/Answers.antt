use Rattle.thumb_instr.proofs.Listed.{eighth_clear}
use Rattle.code_flow.proofs.finding.pops.Goals as goal

pub returns-then-list-ge256 : goal.returns-then-list-ge256
returns-then-list-ge256 c = λ aim. c.returns_by.ensures c.args.place aim

pub returns-else-list-ge256 : goal.returns-else-list-ge256
returns-else-list-ge256 c = λ aim. rw (eighth_clear c.args.list.number c.if-list-ge256.false, c.only.ensures) (c.onward.ensures, tt)
