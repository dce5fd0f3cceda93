use Rattle.std.proofs.Common.{arith}
use Rattle.thumb_machine.specs.Registers.{values_of}
use Rattle.thumb_machine.specs.Memory.{memory_of}
use Rattle.thumb_machine.specs.Outside.{answers_of}
use Rattle.thumb_machine.proofs.Listed.{read_next}
use Rattle.thumb_machine.proofs.world.World.+read_many.Goals as goal

pub returns-clause-registers : goal.returns-clause-registers
returns-clause-registers t c =
    rw (c.set.ensures, c.read_many.ensures.registers, c.read-word.ensures.left, c.read-word.ensures.world, c.read-word.ensures.word, c.next_word.ensures)
    (read_next (memory_of c.args.self.now.memory) (answers_of c.args.answers.now) c.args.address c.args.list.now (values_of c.args.self.now.registers) (omega arith))
