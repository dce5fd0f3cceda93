use Rattle.std.proofs.Common.{◌-◌, ◌≤◌, List, length, ap, refl, arith}
use Rattle.thumb_instr.specs.declared.instr.Instr.{Instr}
use Rattle.step_ledger.proofs.Rises.{at_least-stays, at_least-fewer, at_least-goes_on}
use Rattle.window_rewrite.specs.Choices.{setting_of, sides_of, table_in}
use Rattle.window_rewrite.specs.Scenes.{lines_seen, number_seen}
use Rattle.window_rewrite.proofs.Applied.{meets_less}
use Rattle.window_rewrite.proofs.Chosen.{front_stands, none_reached, none_shorter, count_cost, all_cost}
use Rattle.window_rewrite.proofs.finding.best.Goals as goal

pub loop-count-init : goal.loop-count-init
loop-count-init g c = record {
  within = c.requires.within;
  none =
      none_reached _ c.args.lookup.now.rules.now.costs.now c.args.lookup.now.rules.now.base c.args.lookup.now.rules.now.longest (table_in c.args.lookup.now.rules.now) (lines_seen c.args.lookup.now) (number_seen c.args.lookup.now) c.args.reached
      c.args.lookup.now.site.now.run.instrs c.args.lookup.now.site.now.run.instrs c.requires.lookup.ready.fit c.requires.lookup.site.instrs refl c.requires.none;
  stays = λ e. e;
  rises = at_least-stays c.args.steps.now;
  cost = omega arith;
}

pub lowest-requires-clause-stands : goal.lowest-requires-clause-stands
lowest-requires-clause-stands g c =
    front_stands (lines_seen c.args.lookup.now) (number_seen c.args.lookup.now) c.args.lookup.now.rules.now.longest c.loop-count.count c.live_after-live.result.bits c.args.lookup.now.site.now.run.instrs c.as_slice-run.result.now
    c.requires.lookup.site.instrs c.as_slice-run.ensures.value c.loop-count-test.true c.loop-count.invariant.within c.live_after-live.ensures

pub returns-in_err-choice-clause-cost : goal.returns-in_err-choice-clause-cost
returns-in_err-choice-clause-cost g c =
    let few : c.loop-count.count ≤ length c.as_slice-run.result.now = omega (arith, c.loop-count.invariant.within, ap (λ (is : List Instr). length is) c.as_slice-run.ensures.value) in
    all_cost (sides_of c.args.lookup.now.rules.now) (c.loop-count.count - 1) c.args.steps.now _
    (count_cost (sides_of c.args.lookup.now.rules.now) c.loop-count.count c.as_slice-run.result.now c.args.steps.now _ _ c.loop-count-test.true few c.loop-count.invariant.cost c.lowest.ensures.cost)

pub returns-in-Some-clause-cost : goal.returns-in-Some-clause-cost
returns-in-Some-clause-cost g c =
    let few : c.loop-count.count ≤ length c.as_slice-run.result.now = omega (arith, c.loop-count.invariant.within, ap (λ (is : List Instr). length is) c.as_slice-run.ensures.value) in
    all_cost (sides_of c.args.lookup.now.rules.now) (c.loop-count.count - 1) c.args.steps.now _
    (count_cost (sides_of c.args.lookup.now.rules.now) c.loop-count.count c.as_slice-run.result.now c.args.steps.now _ _ c.loop-count-test.true few c.loop-count.invariant.cost c.lowest.ensures.cost)

pub loop-count-preserved : goal.loop-count-preserved
loop-count-preserved g c =
    let few : c.loop-count.count ≤ length c.as_slice-run.result.now = omega (arith, c.loop-count.invariant.within, ap (λ (is : List Instr). length is) c.as_slice-run.ensures.value) in
    let none = rw c.in_default.is at c.in_ok-choice.ensures.none in
    record {
      within = let w = c.loop-count.invariant.within in omega arith;
      none = none_shorter _ (setting_of c.args.lookup.now.rules.now) (lines_seen c.args.lookup.now) (number_seen c.args.lookup.now) c.loop-count.count c.as_slice-run.result.now c.loop-count-test.true few
          (λ o m. c.loop-count.invariant.none o (meets_less _ _ (setting_of c.args.lookup.now.rules.now) o (lines_seen c.args.lookup.now) c.in_ok-choice.ensures.stays m)) none;
      stays = λ e. c.in_ok-choice.ensures.stays (c.loop-count.invariant.stays e);
      rises = at_least-goes_on _ _ _ 0 0 c.loop-count.invariant.rises (at_least-fewer _ _ _ 0 (omega arith) c.in_ok-choice.ensures.rises);
      cost = count_cost (sides_of c.args.lookup.now.rules.now) c.loop-count.count c.as_slice-run.result.now c.args.steps.now _ _ c.loop-count-test.true few c.loop-count.invariant.cost c.lowest.ensures.cost;
    }

pub returns-clause-cost : goal.returns-clause-cost
returns-clause-cost g c = all_cost (sides_of c.args.lookup.now.rules.now) c.loop-count.count c.args.steps.now _ c.loop-count.invariant.cost

pub returns-in-Some-clause-rises : goal.returns-in-Some-clause-rises
returns-in-Some-clause-rises g c = at_least-goes_on _ _ _ 0 1 c.loop-count.invariant.rises (rw c.in-Some.is at c.in_ok-choice.ensures.rises)
