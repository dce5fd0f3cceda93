use Rattle.lrat_check.specs.Lists.{listed}
use Rattle.lrat_check.proofs.Listed.{keeps_in_list}
use Rattle.lrat_check.proofs.lists.keep_under.Goals as goal

pub returns : goal.returns
returns c = keeps_in_list (listed c.args.lists.now.items) c.grow.new.lists.items c.index_mut.result.now c.push.new.self c.index-at.result c.args.literal c.args.clause c.in_ok-grow.ensures.long c.index-at.ensures.value c.index_mut.ensures.value c.in_ok-push.ensures.items c.in_ok-grow.ensures.same c.in_ok-grow.ensures.lengths
