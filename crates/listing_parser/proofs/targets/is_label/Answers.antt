use Rattle.std.proofs.Common.{◌≡◌, ◌∙◌, sym, is_some, rules}
use Rattle.listing_parser.specs.TableWords.{label_line}
use Rattle.listing_parser.proofs.LabelLemmas.{label_is}
use Rattle.listing_parser.proofs.targets.is_label.Goals as goal

pub returns : goal.returns
returns c =
    let told : c.is_some.result ≡ is_some (label_line c.args.name.now 0 c.args.listing.now) = search rules in
    told ∙ sym (label_is c.args.name.now 0 0 c.args.listing.now)
