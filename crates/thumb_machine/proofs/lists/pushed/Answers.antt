use Rattle.std.proofs.Common.{[], ◌∷◌, arith}
use Rattle.thumb_machine.proofs.Listed.{registers_append}
use Rattle.thumb_machine.proofs.lists.pushed.Goals as goal

pub returns-then-list-eq1-clause-registers : goal.returns-then-list-eq1-clause-registers
returns-then-list-eq1-clause-registers c =
    rw c.push.ensures.items (registers_append c.registers_in-found.result.items (c.from.result ∷ []) c.registers_in-found.ensures.registers (omega arith, tt))
