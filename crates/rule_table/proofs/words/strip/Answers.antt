use Rattle.std.proofs.lemmas.Slice.Eq.{strip_prefix_is}
use Rattle.std.proofs.lemmas.Bool.Decides.{Decides-eqb}
use Rattle.rule_table.proofs.FrontLemmas.{strip_is}
use Rattle.rule_table.proofs.words.strip.Goals as goal

pub returns : goal.returns
returns c = strip_is c.args.prefix.now c.args.bytes.now c.strip_prefix.result (strip_prefix_is Decides-eqb c.args.bytes.now c.args.prefix.now c.strip_prefix.result c.strip_prefix.ensures.cases)
