use Rattle.steady_layout.proofs.Laws.{steady_is_layable}
use Rattle.window_rewrite.proofs.rewriting.judge.Goals as goal

pub returns-then-branch-clause-verdict : goal.returns-then-branch-clause-verdict
returns-then-branch-clause-verdict c =
    let steady = c.in_ok-is_steady_from.ensures c.if-branch.true in
    steady_is_layable c.args.base c.args.listing.now steady.0 steady.1
