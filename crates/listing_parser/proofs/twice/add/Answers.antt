use Rattle.std.proofs.Common.{◌≡◌, ◌∙◌, ℕ, List, map, ap, rules}
use Rattle.std.specs.Prelude.{not}
use Rattle.thumb_model.specs.Layout.{is_among}
use Rattle.listing_parser.proofs.TwiceLemmas.{among_keys, not_not}
use Rattle.listing_parser.proofs.twice.add.Goals as goal

pub returns-clause-again : goal.returns-clause-again
returns-clause-again c =
    let name : c.in_ok-key.key.items ≡ c.args.name.now = search rules in
    ap not c.in_ok-is_new.ensures.added ∙ not_not _ ∙ among_keys c.in_ok-key.key.items c.args.known.now.keys
    ∙ ap (λ (n : List ℕ). is_among n (map (λ k. k.items) c.args.known.now.keys)) name
