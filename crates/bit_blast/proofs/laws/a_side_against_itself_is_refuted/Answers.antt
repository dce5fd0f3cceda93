use Rattle.bit_blast.proofs.Exact.{itself_ends_in_empty}
use Rattle.bit_blast.proofs.laws.a_side_against_itself_is_refuted.Goals as goal

pub returns : goal.returns
returns c = itself_ends_in_empty
