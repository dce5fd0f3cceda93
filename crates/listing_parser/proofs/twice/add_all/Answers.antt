use Rattle.std.proofs.Common.{◌≡◌, true, false, map, arith}
use Rattle.std.proofs.lemmas.Grind.{common_steps}
use Rattle.listing_parser.proofs.FirstTwice.{is_again}
use Rattle.listing_parser.proofs.TwiceLemmas.{again_decides}
use Rattle.listing_parser.proofs.twice.add_all.Goals as goal

pub returns-then-branch-clause-again : goal.returns-then-branch-clause-again
returns-then-branch-clause-again c =
    let is : true ≡ is_again (map (λ k. k.items) c.args.known.now.keys) (map (λ n. n.items) c.args.names.now) = grind (arith, common_steps) in
    again_decides _ _ true is

pub returns-clause-again : goal.returns-clause-again
returns-clause-again c =
    let is : false ≡ is_again (map (λ k. k.items) c.args.known.now.keys) (map (λ n. n.items) c.args.names.now) = grind (arith, common_steps) in
    again_decides _ _ false is
