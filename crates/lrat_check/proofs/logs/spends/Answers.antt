use Rattle.std.proofs.Common.{arith, sym, ◌∙◌}
use Rattle.lrat_check.specs.Runs.{contents_of}
use Rattle.lrat_check.proofs.Additions.{content_at, empty_added, count_added, count_same, all_added, all_same, is_nil, is_no_nil}
use Rattle.lrat_check.proofs.ClauseMembers.{says_no}
use Rattle.lrat_check.proofs.logs.spends.Goals as goal
use Rattle.lrat_check.proofs.logs.spends.Goals.{in-Some+else-is_empty, in_default}

pub returns-then-is_empty : goal.returns-then-is_empty
returns-then-is_empty c =
    let at = content_at c.args.log.now c.loop-line.line-index c.line-item.result c.loop-line-test.true c.line-item.is in
    says_no _ (λ s. empty_added (contents_of c.args.log.now) c.loop-line.line-index _ at c.in-Some.clause.now c.in-Some.ensures.added (is_nil c.in-Some.clause.now (sym c.is_empty.ensures ∙ c.if-is_empty.true)) s.1)

pub loop-line-preserved : goal.loop-line-preserved
loop-line-preserved c =
    let at = content_at c.args.log.now c.loop-line.line-index c.line-item.result c.loop-line-test.true c.line-item.is in
    let log = contents_of c.args.log.now in
    let i = c.loop-line.line-index in
    elim c.match-clause_of.branch [
      | in-Some+else-is_empty w ↦ record {
        count = count_added log i _ at w.in-Some.clause.now c.loop-line.count _ w.in-Some.ensures.added c.loop-line.invariant.count w.count-is;
        no_empty = all_added log i _ at w.in-Some.clause.now w.in-Some.ensures.added (is_no_nil w.in-Some.clause.now (sym w.is_empty.ensures ∙ w.if-is_empty.false)) c.loop-line.invariant.no_empty;
        few = omega (arith, w.count-is, c.loop-line.invariant.few);
      }
      | in_default w ↦ record {
        count = count_same log i _ at c.loop-line.count _ w.in_default.ensures.added c.loop-line.invariant.count w.count-is;
        no_empty = all_same log i _ at w.in_default.ensures.added c.loop-line.invariant.no_empty;
        few = omega (arith, w.count-is, c.loop-line.invariant.few);
      }
    ]
