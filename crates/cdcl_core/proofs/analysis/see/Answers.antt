use Rattle.std.proofs.Common.{ℕ, get_or, length, ◌≤◌, ◌<◌}
use Rattle.std.proofs.lemmas.List.{take_all, get_or_default}
use Rattle.cdcl_core.proofs.Conflicts.{sees_none, sees_more}
use Rattle.cdcl_core.proofs.analysis.see.Goals as goal

pub loop-code-init : goal.loop-code-init
loop-code-init c = sees_none c.args.trail.now c.args.seen.now c.requires

pub see_one-requires : goal.see_one-requires
see_one-requires c = c.loop-code.invariant.part

pub loop-code-preserved : goal.loop-code-preserved
loop-code-preserved c =
    let l : ℕ = get_or c.args.clause.now c.loop-code.code-index 0 in
    let b : c.loop-code.code-index < length c.args.clause.now = c.loop-code-test.true in
    sees_more c.args.trail.now c.args.clause.now c.args.seen.now c.loop-code.seen c.see_one.new.seen c.loop-code.code-index l c.from_code.result c.negated-opposite.result b (get_or_default c.args.clause.now c.loop-code.code-index 0 l b) c.from_code.ensures c.negated-opposite.ensures c.loop-code.invariant
    c.in_ok-see_one.ensures.part c.in_ok-see_one.ensures.grows c.in_ok-see_one.ensures.seen c.in_ok-see_one.ensures.only

pub returns : goal.returns
returns c = let b : length c.args.clause.now ≤ c.loop-code.code-index = c.loop-code-test.false in rw take_all at c.loop-code.invariant
