use Rattle.std.proofs.Common.{◌∙◌}
use Rattle.listing_parser.proofs.TwiceLemmas.{among_keys}
use Rattle.listing_parser.proofs.targets.is_function.Goals as goal

pub returns : goal.returns
returns c = c.contains.ensures ∙ among_keys c.args.name.now c.args.functions.now.keys
