use Rattle.thumb_syntax.proofs.ReadWhole.{reading_is_whole as law}
use Rattle.thumb_syntax.proofs.laws.reading_is_whole.Goals as goal

pub returns : goal.returns
returns c = law
