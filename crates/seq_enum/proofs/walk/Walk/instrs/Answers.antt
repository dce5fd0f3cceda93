use Rattle.std.proofs.Common.{ap, sym, ◌∙◌, Some}
use Rattle.seq_enum.proofs.Steps.{stands_at}
use Rattle.seq_enum.proofs.walk.Walk.instrs.Goals as goal

pub returns : goal.returns
returns c = stands_at c.args.self.now.alphabet.now c.args.self.now.instrs.items c.args.self.now.number c.args.self.now.last c.requires ∙ ap Some (sym c.as_slice.ensures.value)
