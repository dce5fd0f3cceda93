use Rattle.std.proofs.Common.{◌<◌, ℕ}
use Rattle.clause_model.specs.Clauses.{number_of}
use Rattle.lrat_check.proofs.Numerals.{reads, reads_none, literal_fits}
use Rattle.lrat_check.proofs.entry.LiteralProofNumber.read.Goals as goal

pub returns-in-None : goal.returns-in-None
returns-in-None c = reads_none (λ (l : ℕ). l < 400000) number_of literal_fits c.args.word.now c.in-None.ensures

pub returns-in-Some : goal.returns-in-Some
returns-in-Some c = reads (λ (l : ℕ). l < 400000) number_of literal_fits c.args.word.now c.in-Some.number c.literal.result c.in-Some.ensures c.literal.ensures
