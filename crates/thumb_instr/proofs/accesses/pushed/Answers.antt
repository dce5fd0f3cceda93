use Rattle.std.proofs.Common.{◌∙◌, ◌||◌, ap}
use Rattle.thumb_instr.specs.Items.{one_of, has}
use Rattle.thumb_instr.specs.Shape.{registers_in}
use Rattle.thumb_instr.proofs.Listed.{pushed_with, pushed_without}
use Rattle.thumb_instr.proofs.accesses.pushed.Goals as goal

pub returns-then-list-ge256 : goal.returns-then-list-ge256
returns-then-list-ge256 c = λ x.
    c.union.ensures x ∙ (ap (λ b. b || has c.one.result.bits x) (c.registers_in.ensures x)
    ∙ (ap (λ b. one_of x (registers_in c.args.list) || b) (c.one.ensures x) ∙ pushed_with c.args.list x c.if-list-ge256.true c.requires))

pub returns-else-list-ge256 : goal.returns-else-list-ge256
returns-else-list-ge256 c = λ x. c.registers_in-else-list-ge256.ensures x ∙ pushed_without c.args.list x c.if-list-ge256.false
