use Rattle.thumb_instr.proofs.PartLemmas.{gives_back}
use Rattle.thumb_instr.proofs.laws.rebuilding_gives_back.Goals as goal

pub returns : goal.returns
returns c = gives_back c.rebuilt.result c.args.instr.now c.parts.result c.parts.ensures c.rebuilt.ensures
