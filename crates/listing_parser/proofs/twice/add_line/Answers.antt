use Rattle.std.proofs.Common.{◌≡◌, ◌++◌, map}
use Rattle.std.specs.Prelude.{Decides}
use Rattle.std.proofs.lemmas.Result.{IfOk-weaker}
use Rattle.listing_parser.specs.Views.{statement_view, names_view}
use Rattle.listing_parser.specs.Targets.{set_names, IsAgain}
use Rattle.listing_parser.proofs.FirstTwice.{is_again}
use Rattle.listing_parser.proofs.TwiceLemmas.{again_decides, again_is, again_then, again_else}
use Rattle.listing_parser.proofs.twice.add_line.Goals as goal

pub returns-then-branch-clause-again : goal.returns-then-branch-clause-again
returns-then-branch-clause-again c =
    let told : Decides c.in_ok-add_all.field-0 (IsAgain (map (λ k. k.items) c.args.known.now.keys) (names_view c.args.line.now)) = rw c.deref.ensures.value at c.in_ok-add_all.ensures.again in
    let front : c.in_ok-add_all.field-0 ≡ is_again (map (λ k. k.items) c.args.known.now.keys) (names_view c.args.line.now) = again_is _ _ _ told in
    again_decides _ _ _ (again_then _ (names_view c.args.line.now) (set_names (statement_view c.args.line.now.statement)) _ front c.if-branch.true)

pub returns-clause-again : goal.returns-clause-again
returns-clause-again c =
    let told : Decides c.in_ok-add_all.field-0 (IsAgain (map (λ k. k.items) c.args.known.now.keys) (names_view c.args.line.now)) = rw c.deref.ensures.value at c.in_ok-add_all.ensures.again in
    let front : c.in_ok-add_all.field-0 ≡ is_again (map (λ k. k.items) c.args.known.now.keys) (names_view c.args.line.now) = again_is _ _ _ told in
    let known : map (λ k. k.items) c.add_all.new.known.keys ≡ map (λ k. k.items) c.args.known.now.keys ++ names_view c.args.line.now = rw c.deref.ensures.value at (c.in_ok-add_all.ensures.known c.if-branch.false) in
    IfOk-weaker c.add_set.result _ _ (λ again h. again_decides _ _ _ (again_else _ _ (names_view c.args.line.now) (set_names (statement_view c.args.line.now.statement)) _ _ front c.if-branch.false known (again_is _ _ _ h))) c.add_set.ensures.again
