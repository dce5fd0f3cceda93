use Rattle.std.proofs.Common.{pos}
use Rattle.lrat_check.specs.Numbers.{IsId}
use Rattle.lrat_check.proofs.Numerals.{reads, reads_none, id_fits}
use Rattle.lrat_check.proofs.entry.IdProofNumber.read.Goals as goal

pub returns-in-None : goal.returns-in-None
returns-in-None c = reads_none IsId pos id_fits c.args.word.now c.in-None.ensures

pub returns-in-Some : goal.returns-in-Some
returns-in-Some c = reads IsId pos id_fits c.args.word.now c.in-Some.number c.from_number.result c.in-Some.ensures c.from_number.ensures
