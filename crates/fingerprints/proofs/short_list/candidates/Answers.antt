use Rattle.std.proofs.Common.{◌<◌, ◌≤◌, [], arith, length}
use Rattle.std.proofs.lemmas.Result.{IfOk-weaker}
use Rattle.window_exec.specs.declared.state.WState.{WState}
use Rattle.fingerprints.proofs.Choosing.{all_are, candidates_are}
use Rattle.fingerprints.proofs.short_list.candidates.Goals as goal

pub returns-then-is_empty-clause-candidates : goal.returns-then-is_empty-clause-candidates
returns-then-is_empty-clause-candidates g c =
    let none : length c.args.trials.now ≤ 0 = grind arith in
    IfOk-weaker c.all_below.result _ _ (λ v e. all_are _ c.args.trials.now c.args.mask.items.bits c.count-count.result v.items none c.count-count.ensures e) c.all_below.ensures

pub returns-clause-candidates : goal.returns-clause-candidates
returns-clause-candidates g c =
    let some : 0 < length c.args.trials.now = grind arith in
    let zero : WState = record { r = []; nzcv = 0 } in
    IfOk-weaker c.agreeing.result _ _ (λ v agree.
    candidates_are c.args.outcomes.now c.grow.new.self c.args.trials.now (record { start = zero; end = zero }) c.args.longest c.args.mask.items.bits c.count-count.result v.items some c.requires.start c.count-count.ensures c.in_ok-grow.ensures.grown agree) c.agreeing.ensures
