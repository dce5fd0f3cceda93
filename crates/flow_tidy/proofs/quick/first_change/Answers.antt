use Rattle.std.proofs.Common.{◌≡◌, ◌∙◌, ◌+◌, ℕ, length, ap, arith, refl, subst, sym}
use Rattle.kept_places.specs.Marks.{rank, IsNode}
use Rattle.listing_draft.specs.Drafted.{lines_now, Drafted}
use Rattle.flow_tidy.specs.declared.outcome.PlaceOutcome.{PlaceOutcome}
use Rattle.flow_tidy.specs.declared.outcome.PlaceOutcome.TheVariants as outcome
use Rattle.flow_tidy.specs.ChainEnds.{AreEnds}
use Rattle.flow_tidy.specs.Quick.{IsOutcome, IsOutcomeAt, IsQuick, IsSafe}
use Rattle.flow_tidy.proofs.Quickly.{none_free, none_further, none_least, none_left, none_up_to, NoneSooner}
use Rattle.flow_tidy.proofs.quick.first_change.Goals as goal

pub loop-place-init : goal.loop-place-init
loop-place-init c =
    let d = c.args.draft.now in
    let quick : IsQuick d c.args.reached.now c.least-from.new.self = subst (IsQuick d c.args.reached.now) (sym c.least-from.ensures.same) c.requires.quick in
    let none = none_least c.args.widest.now.base d.gone c.least-from.new.self (lines_now d) c.least-from.result quick.due c.least-from.ensures.least in
    let here = none_up_to c.args.widest.now.base d.gone (lines_now d) c.least-from.result c.node-place.result c.node-place.ensures.node none in
    record {
      same = c.node-place.ensures.same;
      quick = subst (λ (x : Drafted). IsQuick x c.args.reached.now c.least-from.new.self) (sym c.node-place.ensures.same) quick;
      safe = subst (IsSafe c.args.widest.now) (sym c.node-place.ensures.same) c.requires.safe;
      ends = subst (λ (x : Drafted). AreEnds x c.args.ends.now) (sym c.node-place.ensures.same) c.requires.ends;
      none = subst (λ (x : Drafted). NoneSooner c.args.widest.now.base x.gone (lines_now x) c.node-place.result) (sym c.node-place.ensures.same) here;
    }

pub loop-place-preserved : goal.loop-place-preserved
loop-place-preserved c =
    let base = c.args.widest.now.base in
    let d = c.loop-place.draft in
    let p : ℕ = c.loop-place.place in
    let dues = c.change_if_due.new.due in
    let next : ℕ = c.next-next.result in
    let r = c.node-place-in-Nothing in
    let o = subst (λ (x : PlaceOutcome). IsOutcomeAt x base d p c.change_if_due.new.draft) c.in-Nothing.is c.in_ok-outcome.ensures.outcome in
    let same : r.new.self ≡ d = r.ensures.same ∙ o.0 in
    let quick : IsQuick d c.args.reached.now dues = subst (λ (x : Drafted). IsQuick x c.args.reached.now dues) o.0 c.in_ok-outcome.ensures.quick in
    let node : IsNode d.gone next r.result = subst (λ (x : Drafted). IsNode x.gone next r.result) o.0 r.ensures.node in
    let behind = none_further base d.gone (lines_now d) p c.loop-place.invariant.none o.1 in
    let free = none_free base d.gone dues (lines_now d) (p + 1) next c.next-next.ensures.from quick.due c.next-next.ensures.free behind in
    let none = none_up_to base d.gone (lines_now d) next r.result node free in
    record {
      same = same ∙ c.loop-place.invariant.same;
      quick = subst (λ (x : Drafted). IsQuick x c.args.reached.now dues) (sym r.ensures.same) c.in_ok-outcome.ensures.quick;
      safe = subst (IsSafe c.args.widest.now) (sym r.ensures.same) c.in_ok-outcome.ensures.safe;
      ends = subst (λ (x : Drafted). AreEnds x c.change_if_due.new.ends) (sym r.ensures.same) c.in_ok-outcome.ensures.ends;
      none = subst (λ (x : Drafted). NoneSooner base x.gone (lines_now x) r.result) (sym same) none;
    }

pub returns-clause-outcome : goal.returns-clause-outcome
returns-clause-outcome c =
    let d = c.loop-place.draft in
    let i = c.loop-place.invariant in
    let never = none_left c.args.widest.now.base d.gone c.loop-place.due (lines_now d) c.loop-place.place i.quick.many (let e : length d.gone ≡ length c.args.draft.now.gone = ap (λ (x : Drafted). length x.gone) i.same in omega (arith, c.place_count-places.ensures.count, c.loop-place-test.false)) i.quick.due i.none in
    subst (λ (x : Drafted). IsOutcome outcome.Nothing c.args.widest.now.base (lines_now x) (lines_now d)) i.same (refl, never)

pub returns-in-Made-clause-outcome : goal.returns-in-Made-clause-outcome
returns-in-Made-clause-outcome c =
    let d = c.loop-place.draft in
    let i = c.loop-place.invariant in
    let o = subst (λ (x : PlaceOutcome). IsOutcomeAt x c.args.widest.now.base d c.loop-place.place c.change_if_due.new.draft) c.in-Made.is c.in_ok-outcome.ensures.outcome in
    subst (λ (x : Drafted). IsOutcome outcome.Made c.args.widest.now.base (lines_now x) (lines_now c.change_if_due.new.draft)) i.same (rank d.gone c.loop-place.place, o, i.none)
