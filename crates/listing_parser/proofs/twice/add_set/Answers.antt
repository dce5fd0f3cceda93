use Rattle.std.proofs.Common.{◌≡◌, ◌∙◌, ◌∷◌, [], false, List, map, ap, sym, rules}
use Rattle.std.specs.Prelude.{Decides}
use Rattle.std.proofs.lemmas.Result.{IfOk-weaker}
use Rattle.thumb_model.specs.Layout.{is_among}
use Rattle.thumb_model.specs.Listing.{Name}
use Rattle.listing_parser.specs.Views.{statement_view}
use Rattle.listing_parser.specs.Targets.{set_names, IsAgain}
use Rattle.listing_parser.proofs.FirstTwice.{is_again}
use Rattle.listing_parser.proofs.TwiceLemmas.{again_decides, one_again}
use Rattle.listing_parser.proofs.twice.add_set.Goals as goal

pub returns-in-Sets-clause-again : goal.returns-in-Sets-clause-again
returns-in-Sets-clause-again c =
    let names : set_names (statement_view c.args.statement.now) ≡ c.deref.result.now ∷ [] = search rules in
    let known : List Name = map (λ k. k.items) c.args.known.now.keys in
    let defined : List Name = set_names (statement_view c.args.statement.now) in
    IfOk-weaker c.add.result (λ b. b ≡ is_among c.deref.result.now known) (λ b. Decides b (IsAgain known defined))
    (λ b e. again_decides known defined b (e ∙ one_again c.deref.result.now known ∙ ap (is_again known) (sym names))) c.add.ensures.again

pub returns-in_default : goal.returns-in_default
returns-in_default c =
    let is : false ≡ is_again (map (λ k. k.items) c.args.known.now.keys) (set_names (statement_view c.args.statement.now)) = search rules in
    record { again = again_decides _ _ false is; known = search rules }
