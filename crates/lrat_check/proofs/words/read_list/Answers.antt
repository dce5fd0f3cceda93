use Rattle.clause_model.proofs.Scans.{never}
use Rattle.lrat_check.specs.Reading.{words_left}
use Rattle.lrat_check.proofs.Reading.{read_stops, read_out}
use Rattle.lrat_check.proofs.words.read_list.Goals as goal

pub returns-in-None : goal.returns-in-None
returns-in-None g c = read_stops g.E.ProofNumber.can_stand g.E.ProofNumber.text (words_left c.args.rest) (words_left c.words.rest) (words_left c.in-Some.after) c.words.entries.items c.in-Some.word.now c.words.invariant c.in-Some.ensures (never c.if-is_end.ensures.1) c.in-None.ensures

pub returns : goal.returns
returns g c = read_out g.E.ProofNumber.can_stand g.E.ProofNumber.text (words_left c.args.rest) (words_left c.words.rest) c.words.entries.items c.words.invariant c.in_default.ensures
