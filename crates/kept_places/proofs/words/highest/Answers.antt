use Rattle.kept_places.proofs.Bits.{highest_is}
use Rattle.kept_places.proofs.words.highest.Goals as goal

pub returns-clause-here : goal.returns-clause-here
returns-clause-here c = (highest_is c.args.word c.requires c.ranges.word.fits).2

pub returns-clause-highest : goal.returns-clause-highest
returns-clause-highest c = (highest_is c.args.word c.requires c.ranges.word.fits).3
