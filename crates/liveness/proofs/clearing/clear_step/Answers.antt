use Rattle.std.proofs.Common.{◌≡◌, ◌∙◌, ◌&&◌, not, true, false, get_or, if◌then◌else◌, sym, ap, arith, ℕ}
use Rattle.thumb_instr.specs.Items.{has}
use Rattle.liveness.specs.Live.{set_at}
use Rattle.liveness.specs.Walk.{cleared, start_at}
use Rattle.liveness.proofs.Counts.{set_read, marked_or}
use Rattle.liveness.proofs.Walks.{clears_on, clears_same}
use Rattle.liveness.proofs.Stepping.{clears_step}
use Rattle.liveness.proofs.clearing.clear_step.Goals as goal

pub returns-then-marks-at-clause-on : goal.returns-then-marks-at-clause-on
returns-then-marks-at-clause-on c =
    let both = clears_on c.args.walk.now c.clear_before.new.walk c.clear_callers.new.walk c.clear_before.ensures.on c.clear_callers.ensures.on in
    clears_on c.args.walk.now c.clear_callers.new.walk c.clear_points.new.walk both c.clear_points.ensures.on

pub returns-else-marks-at-clause-on : goal.returns-else-marks-at-clause-on
returns-else-marks-at-clause-on c = clears_on c.args.walk.now c.clear_before.new.walk c.clear_callers.new.walk c.clear_before.ensures.on c.clear_callers.ensures.on

pub returns-then-marks-at-clause-step : goal.returns-then-marks-at-clause-step
returns-then-marks-at-clause-step c =
    let k = c.args.walk.now in
    let p = c.args.place in
    let was : set_at k.was.items p ≡ c.index.result.now.bits = set_read k.was.items p c.index.result.now (omega (arith, c.requires.place, c.requires.many)) c.index.ensures in
    let now : set_at k.before.sets.items p ≡ c.index-2.result.now.bits = set_read k.before.sets.items p c.index-2.result.now (omega (arith, c.requires.place, c.requires.fit.before_many)) c.index-2.ensures in
    let start : start_at k p ≡ set_at k.was.items p = ap (λ b. if b then set_at k.was.items p else set_at k.before.sets.items p) c.requires.touched in
    let are : (x : ℕ) → cleared k p x ≡ true → has c.minus-items.result.bits x ≡ true = λ x h.
    c.minus-items.ensures x ∙ ap (λ y. has y x && not (has c.index-2.result.now.bits x)) (sym was) ∙ ap (λ y. has (set_at k.was.items p) x && not (has y x)) (sym now) ∙ ap (λ y. has y x && not (has (set_at k.before.sets.items p) x)) (sym start) ∙ h in
    clears_step c.args.ways.now c.args.graph.now c.args.forward.now c.args.window p k c.clear_before.new.walk c.clear_callers.new.walk c.clear_points.new.walk c.args.gone.now c.clear_points.new.gone c.minus-items.result c.as_slice-sets.result.now c.as_slice-sets.ensures.value are c.clear_before.ensures.on c.clear_callers.ensures.on c.clear_points.ensures.on
    c.clear_before.ensures.told c.clear_before.ensures.window c.clear_callers.ensures.told (λ x m i. c.clear_points.ensures.gone x i) c.clear_points.ensures.told

pub returns-else-marks-at-clause-step : goal.returns-else-marks-at-clause-step
returns-else-marks-at-clause-step c =
    let k = c.args.walk.now in
    let p = c.args.place in
    let was : set_at k.was.items p ≡ c.index.result.now.bits = set_read k.was.items p c.index.result.now (omega (arith, c.requires.place, c.requires.many)) c.index.ensures in
    let now : set_at k.before.sets.items p ≡ c.index-2.result.now.bits = set_read k.before.sets.items p c.index-2.result.now (omega (arith, c.requires.place, c.requires.fit.before_many)) c.index-2.ensures in
    let start : start_at k p ≡ set_at k.was.items p = ap (λ b. if b then set_at k.was.items p else set_at k.before.sets.items p) c.requires.touched in
    let are : (x : ℕ) → cleared k p x ≡ true → has c.minus-items.result.bits x ≡ true = λ x h.
    c.minus-items.ensures x ∙ ap (λ y. has y x && not (has c.index-2.result.now.bits x)) (sym was) ∙ ap (λ y. has (set_at k.was.items p) x && not (has y x)) (sym now) ∙ ap (λ y. has y x && not (has (set_at k.before.sets.items p) x)) (sym start) ∙ h in
    let off = ap (λ (ms : _). get_or ms p false) (sym c.as_slice-marks.ensures.value) in
    clears_step c.args.ways.now c.args.graph.now c.args.forward.now c.args.window p k c.clear_before.new.walk c.clear_callers.new.walk c.clear_callers.new.walk c.args.gone.now c.args.gone.now c.minus-items.result c.as_slice-sets.result.now c.as_slice-sets.ensures.value are c.clear_before.ensures.on c.clear_callers.ensures.on (clears_same c.clear_callers.new.walk)
    c.clear_before.ensures.told c.clear_before.ensures.window c.clear_callers.ensures.told (λ x m i. absurd (let t = sym (marked_or c.args.graph.now.is_point.items p) ∙ m in let f = off ∙ c.if-marks-at.false in cc)) (λ r x h g. h g)
