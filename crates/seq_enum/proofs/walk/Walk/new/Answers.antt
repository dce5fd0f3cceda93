use Rattle.seq_enum.proofs.Steps.{stands_start}
use Rattle.seq_enum.proofs.walk.Walk.new.Goals as goal

pub returns-clause-stands : goal.returns-clause-stands
returns-clause-stands c = rw c.new.ensures (stands_start c.args.alphabet.now c.requires.some c.requires.few)
