use Rattle.std.proofs.Common.{◌≡◌, ◌+◌, [], Some, None, map, sym, arith}
use Rattle.std.proofs.lemmas.Grind.{common_steps}
use Rattle.listing_parser.specs.Views.{line_view}
use Rattle.listing_parser.specs.Targets.{defined_in}
use Rattle.listing_parser.proofs.FirstTwice.{first_twice, is_again}
use Rattle.listing_parser.proofs.TwiceLemmas.{again_is, none_once, some_first}
use Rattle.listing_parser.proofs.twice.first_twice.Goals as goal

pub loop-n-preserved : goal.loop-n-preserved
loop-n-preserved c =
    let new : c.in_ok-add_line.field-0 ≡ is_again (map (λ k. k.items) c.loop-n.known.keys) (defined_in (line_view c.index-lines-n.result)) = again_is _ _ _ c.in_ok-add_line.ensures.again in
    grind (arith, common_steps)

pub returns-then-branch : goal.returns-then-branch
returns-then-branch c =
    let again : c.in_ok-add_line.field-0 ≡ is_again (map (λ k. k.items) c.loop-n.known.keys) (defined_in (line_view c.index-lines-n.result)) = again_is _ _ _ c.in_ok-add_line.ensures.again in
    let found : Some (c.loop-n.n + 1) ≡ first_twice 1 [] (map line_view c.args.lines.now) = grind (arith, common_steps) in
    some_first (map line_view c.args.lines.now) (c.loop-n.n + 1) (sym found)

pub returns : goal.returns
returns c =
    let none : None ≡ first_twice 1 [] (map line_view c.args.lines.now) = grind (arith, common_steps) in
    none_once (map line_view c.args.lines.now) (sym none)
