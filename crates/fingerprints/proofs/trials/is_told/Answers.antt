use Rattle.std.proofs.Common.{◌-◌, arith, refl, sym, ◌∙◌, length}
use Rattle.std.proofs.lemmas.Bool.{false≢true}
use Rattle.thumb_model.specs.Effect.{after_all}
use Rattle.window_exec.specs.State.{values_of, Differ}
use Rattle.fingerprints.specs.declared.trials.Trial.{Trial}
use Rattle.fingerprints.proofs.Tried.{any_at, beside, one_more_passed}
use Rattle.fingerprints.proofs.trials.is_told.Goals as goal

pub returns-then-differ-clause-told : goal.returns-then-differ-clause-told
returns-then-differ-clause-told g c =
    let P = λ (t : Trial). Differ (values_of t.end) (after_all c.args.instrs.now (values_of t.start)) c.args.mask.items.bits in
    let test = beside _ _ _ c.args.mask.items.bits c.differ.result c.run-end.ensures.end c.differ.ensures in
    (λ h. any_at P c.args.trials.now (length c.args.trials.now - 1 - c.loop-passed.passed) _ (omega (arith, c.loop-passed-test.true)) (test.0 c.if-differ.true), λ h. refl)

pub loop-passed-preserved : goal.loop-passed-preserved
loop-passed-preserved g c =
    let P = λ (t : Trial). Differ (values_of t.end) (after_all c.args.instrs.now (values_of t.start)) c.args.mask.items.bits in
    let test = beside _ _ _ c.args.mask.items.bits c.differ.result c.run-end.ensures.end c.differ.ensures in
    record {
      none = one_more_passed P c.args.trials.now c.loop-passed.passed _ c.loop-passed-test.true c.loop-passed.invariant.none (λ h. false≢true (sym c.if-differ.false ∙ test.1 h));
      cost = omega (arith, c.loop-passed.invariant.cost, c.run-end.ensures.count.1);
    }
