use Rattle.std.proofs.Common.{map, ap}
use Rattle.listing_parser.proofs.TwiceLemmas.{added_among}
use Rattle.listing_parser.proofs.targets.mark.Goals as goal

pub returns : goal.returns
returns c = λ q.
    added_among q c.args.name.now (map (λ k. k.items) c.args.functions.now.keys) (map (λ k. k.items) c.add.new.known.keys) c.in_ok-add.field-0
    c.in_ok-add.ensures.again c.in_ok-add.ensures.known (λ h. ap (map (λ k. k.items)) (c.in_ok-add.ensures.kept h))
