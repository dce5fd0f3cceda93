use Rattle.ascii_scan.proofs.LineLemmas.{lines_join_whole}
use Rattle.ascii_scan.proofs.source.lines_join_to_the_text.Goals as goal

pub returns : goal.returns
returns c = lines_join_whole
