use Rattle.flow_tidy.proofs.Quickly.{sure_layable}
use Rattle.flow_tidy.proofs.tidying.layout_unless_sure.Goals as goal

pub returns-then-branch-clause-verdict : goal.returns-then-branch-clause-verdict
returns-then-branch-clause-verdict c = sure_layable c.args.base c.args.listing.now (c.in_ok-is_sure.ensures c.if-branch.true)
