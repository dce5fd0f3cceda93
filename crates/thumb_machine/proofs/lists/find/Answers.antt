use Rattle.std.proofs.Common.{[], ◌∷◌}
use Rattle.thumb_machine.proofs.Listed.{registers_append}
use Rattle.thumb_machine.proofs.lists.find.Goals as goal

pub returns-then-list-register-eq1-clause-registers : goal.returns-then-list-register-eq1-clause-registers
returns-then-list-register-eq1-clause-registers c = λ h.
    rw c.push.ensures.items (registers_append c.args.found.now.items (c.args.register ∷ []) h (c.requires.register, tt))
