use Rattle.thumb_syntax.proofs.RegisterTable.{found_there}
use Rattle.thumb_syntax.proofs.registers.register_named.Goals as goal

pub returns : goal.returns
returns c = found_there c.args.word.now _ c.registers.result.now c.place_of.result c.registers.ensures.registers c.place_of.ensures.place c.place_of.ensures.within c.number_in.ensures
