use Rattle.std.proofs.Common.{ℕ, ◌≡◌, ◌∙◌, ◌<◌, ◌≤◌, ◌+◌, sym, ap, subst, arith, map, length, take, get_or}
use Rattle.rule_table.specs.declared.header.Field.TheVariants.{Regs, Left}
use Rattle.table_audit.specs.Shorter.{sequences_below}
use Rattle.table_learn.specs.Given.{settings_of, window_of, AreWindows, IsWindow}
use Rattle.table_learn.specs.Found.{window_in}
use Rattle.table_audit.specs.Acceptance.{lengths_below, width_of}
use Rattle.table_learn.specs.Progress.{HasLearnt}
use Rattle.table_learn.proofs.Finished.{Pairs, window_at, same_window, learnt_next, cost_next, is_full, learnt_whole, valid_all, fits_all, cost_all}
use Rattle.table_learn.proofs.learning.learn.Goals as goal

pub width-width-requires-clause-some : goal.width-width-requires-clause-some
width-width-requires-clause-some g c = let some = (c.requires.settings.header.numbers Regs).0 in omega (arith, c.with_scratch-registers.ensures, some)

pub width-width-requires-clause-short : goal.width-width-requires-clause-short
width-width-requires-clause-short g c = (c.requires.settings.header.numbers Left).1

pub new-window-requires : goal.new-window-requires
new-window-requires g c =
    let all = subst (λ (ws : Pairs). AreWindows (settings_of c.args.settings) (map window_of ws)) (sym c.deref-left-items.ensures.value) c.requires.windows in
    (window_at (settings_of c.args.settings) c.deref-left-items.result.now c.loop-left.left-index c.loop-left-item.result all c.loop-left-test.true c.loop-left-item.is).canonical

pub learn_window-requires-clause-window : goal.learn_window-requires-clause-window
learn_window-requires-clause-window g c =
    let all = subst (λ (ws : Pairs). AreWindows (settings_of c.args.settings) (map window_of ws)) (sym c.deref-left-items.ensures.value) c.requires.windows in
    let w = window_at (settings_of c.args.settings) c.deref-left-items.result.now c.loop-left.left-index c.loop-left-item.result all c.loop-left-test.true c.loop-left-item.is in
    subst (λ s. IsWindow s (window_in c.new-window.result)) (sym c.in_ok-settings.ensures.same) (subst (λ v. IsWindow (settings_of c.args.settings) v) (sym (same_window c.new-window.result c.loop-left-item.result c.new-window.ensures.left c.new-window.ensures.mask)) w)

pub learn_window-requires-clause-narrow : goal.learn_window-requires-clause-narrow
learn_window-requires-clause-narrow g c =
    let width : c.width-width.result ≡ width_of (settings_of c.args.settings) =
    c.width-width.ensures ∙ ap (λ (k : ℕ). length (sequences_below k c.args.settings.pool (lengths_below c.args.settings.costs c.args.settings.left))) c.with_scratch-registers.ensures in
    subst (λ s. width_of s ≤ 5000000) (sym c.in_ok-settings.ensures.same) (omega (arith, width, c.if-width-gt-WIDEST.false))

pub loop-left-preserved : goal.loop-left-preserved
loop-left-preserved g c =
    let ws = c.args.windows.items in
    let low : c.loop-left.left-index < length c.args.windows.items = subst (λ (vs : Pairs). c.loop-left.left-index < length vs) c.deref-left-items.ensures.value c.loop-left-test.true in
    let item : c.loop-left-item.result ≡ get_or c.args.windows.items c.loop-left.left-index c.loop-left-item.result = subst (λ (vs : Pairs). c.loop-left-item.result ≡ get_or vs c.loop-left.left-index c.loop-left-item.result) c.deref-left-items.ensures.value c.loop-left-item.is in
    let next : HasLearnt (settings_of c.args.settings) (map window_of (take (c.loop-left.left-index + 1) c.args.windows.items)) c.learn_window.new.learner =
    learnt_next (settings_of c.args.settings) (settings_of c.in_ok-settings.settings) ws c.loop-left.left-index c.loop-left-item.result c.new-window.result c.loop-left.learner c.learn_window.new.learner c.in_ok-settings.ensures.same low item
    (same_window c.new-window.result c.loop-left-item.result c.new-window.ensures.left c.new-window.ensures.mask) c.loop-left.invariant.learnt c.in_ok-learn_window.ensures.learnt in
    record {
      learnt = next;
      short = c.if-learner.false;
      cost = cost_next (settings_of c.args.settings) (settings_of c.in_ok-settings.settings) ws c.loop-left.left-index c.loop-left.learner c.learn_window.new.learner c.loop-left.steps c.learn_window.new.steps c.args.steps.now c.in_ok-settings.ensures.same low c.loop-left.invariant.learnt next c.in_ok-learn_window.ensures.grown c.loop-left.invariant.cost c.in_ok-learn_window.ensures.cost;
    }

pub returns-then-learner-clause-fails : goal.returns-then-learner-clause-fails
returns-then-learner-clause-fails g c =
    let ws = c.args.windows.items in
    let low : c.loop-left.left-index < length c.args.windows.items = subst (λ (vs : Pairs). c.loop-left.left-index < length vs) c.deref-left-items.ensures.value c.loop-left-test.true in
    let item : c.loop-left-item.result ≡ get_or c.args.windows.items c.loop-left.left-index c.loop-left-item.result = subst (λ (vs : Pairs). c.loop-left-item.result ≡ get_or vs c.loop-left.left-index c.loop-left-item.result) c.deref-left-items.ensures.value c.loop-left-item.is in
    let next : HasLearnt (settings_of c.args.settings) (map window_of (take (c.loop-left.left-index + 1) c.args.windows.items)) c.learn_window.new.learner =
    learnt_next (settings_of c.args.settings) (settings_of c.in_ok-settings.settings) ws c.loop-left.left-index c.loop-left-item.result c.new-window.result c.loop-left.learner c.learn_window.new.learner c.in_ok-settings.ensures.same low item
    (same_window c.new-window.result c.loop-left-item.result c.new-window.ensures.left c.new-window.ensures.mask) c.loop-left.invariant.learnt c.in_ok-learn_window.ensures.learnt in
    let width : c.width-width.result ≡ width_of (settings_of c.args.settings) =
    c.width-width.ensures ∙ ap (λ (k : ℕ). length (sequences_below k c.args.settings.pool (lengths_below c.args.settings.costs c.args.settings.left))) c.with_scratch-registers.ensures in
    let narrow : width_of (settings_of c.args.settings) ≤ 5000000 = omega (arith, width, c.if-width-gt-WIDEST.false) in
    is_full (settings_of c.args.settings) (settings_of c.in_ok-settings.settings) ws (c.loop-left.left-index + 1) c.learn_window.new.learner _ c.in_ok-settings.ensures.same c.requires.settings.header narrow (omega arith) (omega (arith, low)) next c.table_of-table.ensures c.if-learner.true

pub returns-then-learner-clause-spends : goal.returns-then-learner-clause-spends
returns-then-learner-clause-spends g c =
    let ws = c.args.windows.items in
    let low : c.loop-left.left-index < length c.args.windows.items = subst (λ (vs : Pairs). c.loop-left.left-index < length vs) c.deref-left-items.ensures.value c.loop-left-test.true in
    let item : c.loop-left-item.result ≡ get_or c.args.windows.items c.loop-left.left-index c.loop-left-item.result = subst (λ (vs : Pairs). c.loop-left-item.result ≡ get_or vs c.loop-left.left-index c.loop-left-item.result) c.deref-left-items.ensures.value c.loop-left-item.is in
    let next : HasLearnt (settings_of c.args.settings) (map window_of (take (c.loop-left.left-index + 1) c.args.windows.items)) c.learn_window.new.learner =
    learnt_next (settings_of c.args.settings) (settings_of c.in_ok-settings.settings) ws c.loop-left.left-index c.loop-left-item.result c.new-window.result c.loop-left.learner c.learn_window.new.learner c.in_ok-settings.ensures.same low item
    (same_window c.new-window.result c.loop-left-item.result c.new-window.ensures.left c.new-window.ensures.mask) c.loop-left.invariant.learnt c.in_ok-learn_window.ensures.learnt in
    cost_all (settings_of c.args.settings) (settings_of c.in_ok-settings.settings) ws (c.loop-left.left-index + 1) c.learn_window.new.steps c.args.steps.now c.learn_window.new.learner _ (c.requires.settings.header.numbers Left).0 next (omega (arith, low)) c.table_of-table.ensures
    (cost_next (settings_of c.args.settings) (settings_of c.in_ok-settings.settings) ws c.loop-left.left-index c.loop-left.learner c.learn_window.new.learner c.loop-left.steps c.learn_window.new.steps c.args.steps.now c.in_ok-settings.ensures.same low c.loop-left.invariant.learnt next c.in_ok-learn_window.ensures.grown c.loop-left.invariant.cost c.in_ok-learn_window.ensures.cost)

pub returns-clause-learnt : goal.returns-clause-learnt
returns-clause-learnt g c =
    let width : c.width-width.result ≡ width_of (settings_of c.args.settings) =
    c.width-width.ensures ∙ ap (λ (k : ℕ). length (sequences_below k c.args.settings.pool (lengths_below c.args.settings.costs c.args.settings.left))) c.with_scratch-registers.ensures in
    let narrow : width_of (settings_of c.args.settings) ≤ 5000000 = omega (arith, width, c.if-width-gt-WIDEST.false) in
    let past : length c.args.windows.items ≤ c.loop-left.left-index = subst (λ (vs : Pairs). length vs ≤ c.loop-left.left-index) c.deref-left-items.ensures.value c.loop-left-test.false in
    learnt_whole (settings_of c.args.settings) (settings_of c.in_ok-settings.settings) c.args.windows.items c.loop-left.left-index c.loop-left.learner _ c.in_ok-settings.ensures.same narrow past c.loop-left.invariant.learnt c.table_of.ensures

pub returns-clause-valid : goal.returns-clause-valid
returns-clause-valid g c =
    let width : c.width-width.result ≡ width_of (settings_of c.args.settings) =
    c.width-width.ensures ∙ ap (λ (k : ℕ). length (sequences_below k c.args.settings.pool (lengths_below c.args.settings.costs c.args.settings.left))) c.with_scratch-registers.ensures in
    let narrow : width_of (settings_of c.args.settings) ≤ 5000000 = omega (arith, width, c.if-width-gt-WIDEST.false) in
    valid_all (settings_of c.args.settings) (settings_of c.in_ok-settings.settings) c.args.windows.items c.loop-left.left-index c.loop-left.learner _ c.in_ok-settings.ensures.same c.requires.settings.header narrow c.loop-left.invariant.learnt c.table_of.ensures

pub returns-clause-fits : goal.returns-clause-fits
returns-clause-fits g c = fits_all (settings_of c.args.settings) (settings_of c.in_ok-settings.settings) c.args.windows.items c.loop-left.left-index c.loop-left.learner _ c.in_ok-settings.ensures.same c.loop-left.invariant.learnt c.table_of.ensures c.loop-left.invariant.short

pub returns-clause-cost : goal.returns-clause-cost
returns-clause-cost g c =
    let within : c.loop-left.left-index ≤ length c.args.windows.items = subst (λ (vs : Pairs). c.loop-left.left-index ≤ length vs) c.deref-left-items.ensures.value (omega arith) in
    cost_all (settings_of c.args.settings) (settings_of c.in_ok-settings.settings) c.args.windows.items c.loop-left.left-index c.loop-left.steps c.args.steps.now c.loop-left.learner _ (c.requires.settings.header.numbers Left).0 c.loop-left.invariant.learnt within c.table_of.ensures c.loop-left.invariant.cost
