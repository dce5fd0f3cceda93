use Rattle.listing_parser.proofs.VerdictLemmas.{one_verdict}
use Rattle.listing_parser.proofs.laws.a_text_has_one_verdict.Goals as goal

pub returns : goal.returns
returns c = one_verdict
