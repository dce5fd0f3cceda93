use Rattle.thumb_syntax.proofs.RoundTrip.{writing_reads_back as law}
use Rattle.thumb_syntax.proofs.laws.writing_reads_back.Goals as goal

pub returns : goal.returns
returns c = law
