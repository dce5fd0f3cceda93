use Rattle.thumb_model.proofs.Cuts.{replaced_cut}
use Rattle.thumb_model.proofs.laws.replaced_lines_are_a_cut.Goals as goal

pub returns : goal.returns
returns c = replaced_cut
