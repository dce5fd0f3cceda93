use Rattle.std.proofs.Common.{◌∙◌, ap, sym}
use Rattle.std.specs.Prelude.{nat_lt}
use Rattle.listing_parser.specs.Targets.{from_label}
use Rattle.listing_parser.proofs.RunLemmas.{reaches_by_count}
use Rattle.listing_parser.proofs.targets.reaches.Goals as goal

pub returns : goal.returns
returns c = ap (nat_lt c.args.words) c.words_from.ensures ∙ sym (reaches_by_count (from_label c.args.name.now c.args.listing.now) c.args.words)
