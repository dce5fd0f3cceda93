use Rattle.std.proofs.Common.{true, ◌≡◌, ◌+◌, ◌-◌, ◌∙◌, sym, arith, length, get_or}
use Rattle.std.proofs.lemmas.Bool.{false_from_ne_true, false≢true}
use Rattle.std.proofs.lemmas.List.Folds.{list_any_at, list_any_none}
use Rattle.std.proofs.lemmas.List.{get_or_default}
use Rattle.window_exec.specs.declared.state.WState.{WState}
use Rattle.window_exec.specs.State.{seen}
use Rattle.fingerprints.proofs.Tried.{one_more_passed}
use Rattle.table_learn.specs.Tellings.{tells_apart}
use Rattle.table_learn.proofs.Telling.{test_is}
use Rattle.table_learn.proofs.trying.is_told.Goals as goal
use Rattle.common_lemmas.proofs.Numbers.{one_more_times}

pub returns-then-tells-clause-told : goal.returns-then-tells-clause-told
returns-then-tells-clause-told g c =
    let p = λ (s : WState). tells_apart c.args.left.now c.args.right.now c.args.mask.items.bits (seen s) in
    let test = test_is c.tells.result c.args.left.now c.args.right.now c.args.mask.items.bits _ c.args.mask.in_masks c.tells.ensures in
    sym (list_any_at p c.args.states.now (length c.args.states.now - 1 - c.loop-passed.passed) _ (omega (arith, c.loop-passed-test.true)) (sym test ∙ c.if-tells.true))

pub loop-passed-preserved : goal.loop-passed-preserved
loop-passed-preserved g c =
    let P = λ (s : WState). tells_apart c.args.left.now c.args.right.now c.args.mask.items.bits (seen s) ≡ true in
    let test = test_is c.tells.result c.args.left.now c.args.right.now c.args.mask.items.bits _ c.args.mask.in_masks c.tells.ensures in
    let next = one_more_times c.loop-passed.passed (length c.args.left.now + length c.args.right.now) in
    record {
      none = one_more_passed P c.args.states.now c.loop-passed.passed _ c.loop-passed-test.true c.loop-passed.invariant.none (λ h. false≢true (sym c.if-tells.false ∙ test ∙ h));
      cost = omega (arith, c.loop-passed.invariant.cost, next);
    }

pub returns-clause-told : goal.returns-clause-told
returns-clause-told g c =
    let p = λ (s : WState). tells_apart c.args.left.now c.args.right.now c.args.mask.items.bits (seen s) in
    sym (list_any_none p c.args.states.now (λ k d low. false_from_ne_true _ (c.loop-passed.invariant.none k (get_or c.args.states.now k d) (omega (arith, c.loop-passed-test.false)) low (get_or_default c.args.states.now k (get_or c.args.states.now k d) d low))))
