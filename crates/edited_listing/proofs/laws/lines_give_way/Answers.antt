use Rattle.edited_listing.proofs.Emitted.{lines_give_way}
use Rattle.edited_listing.proofs.laws.lines_give_way.Goals as goal

pub returns : goal.returns
returns c = λ write r n p is xs ls s v f. lines_give_way write ls r n p is xs s v f
