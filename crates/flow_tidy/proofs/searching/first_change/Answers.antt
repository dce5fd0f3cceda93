use Rattle.std.proofs.Common.{arith, subst, sym}
use Rattle.flow_tidy.specs.DuePlaces.{IsKnown}
use Rattle.flow_tidy.specs.Tidying.{setting}
use Rattle.flow_tidy.specs.Made.{IsMadeAt}
use Rattle.flow_tidy.proofs.Making.{found_next, none_at_all, none_before_more}
use Rattle.flow_tidy.proofs.Settled.{none_before_least}
use Rattle.flow_tidy.proofs.searching.first_change.Goals as goal

pub loop-place-init : goal.loop-place-init
loop-place-init c =
    let known = subst (IsKnown c.args.listing.now c.args.laid.now c.args.reached.now) (sym c.least-from.ensures.same) c.requires.known in
    record {
      known = known;
      none = none_before_least (setting c.args.laid.now.base) c.least-from.result c.args.listing.now c.args.laid.now c.args.reached.now c.least-from.new.self known c.least-from.ensures.least;
    }

pub loop-place-preserved : goal.loop-place-preserved
loop-place-preserved c =
    let s = setting c.args.laid.now.base in
    record {
      known = c.changed_if_due.ensures.known;
      none = none_before_more s c.loop-place.place c.args.listing.now c.loop-place.invariant.none (subst (IsMadeAt s c.loop-place.place c.args.listing.now) c.in_default.is c.in_ok-changed.ensures.made);
    }

pub returns-clause-next : goal.returns-clause-next
returns-clause-next c = none_at_all (setting c.args.laid.now.base) c.loop-place.place c.args.listing.now (omega (arith, c.place_count-places.ensures, c.loop-place-test.false)) c.loop-place.invariant.none

pub returns-in-Some-clause-next : goal.returns-in-Some-clause-next
returns-in-Some-clause-next c =
    let s = setting c.args.laid.now.base in
    found_next s c.loop-place.place c.args.listing.now c.in-Some.changed c.loop-place.invariant.none (subst (IsMadeAt s c.loop-place.place c.args.listing.now) c.in-Some.is c.in_ok-changed.ensures.made)
