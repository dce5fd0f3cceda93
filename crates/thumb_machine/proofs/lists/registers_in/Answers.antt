use Rattle.thumb_instr.specs.Shape.{registers_in}
use Rattle.thumb_machine.proofs.lists.registers_in.Goals as goal

pub returns-clause-items : goal.returns-clause-items
unfolding registers_in
returns-clause-items c = c.found_in.ensures.items
