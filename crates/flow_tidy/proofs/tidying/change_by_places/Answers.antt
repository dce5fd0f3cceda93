use Rattle.std.proofs.Common.{◌+◌, ◌<◌, ◌^◌, length, sym, subst, arith}
use Rattle.thumb_model.specs.Listing.{code_of, places_of}
use Rattle.code_flow.specs.Marks.{AreMarks}
use Rattle.listing_draft.specs.Drafted.{lines_now}
use Rattle.flow_tidy.specs.declared.outcome.PlaceOutcome.{PlaceOutcome}
use Rattle.flow_tidy.specs.Quick.{IsOutcome}
use Rattle.flow_tidy.specs.Tidying.{setting}
use Rattle.flow_tidy.proofs.Draftings.{few_now}
use Rattle.flow_tidy.proofs.Ends.{room_of}
use Rattle.flow_tidy.proofs.Quickly.{goes_first, sure_layable}
use Rattle.flow_tidy.proofs.Rounds.{count_fits, next_made, next_room}
use Rattle.flow_tidy.proofs.tidying.change_by_places.Goals as goal

pub overflow_add-changes : goal.overflow_add-changes
overflow_add-changes c =
    let base = c.args.widest.now.base in
    let given = lines_now c.args.draft.now in
    let ls = lines_now c.loop-ends.draft in
    let new = lines_now c.first_change.new.draft in
    let o = subst (λ (x : PlaceOutcome). IsOutcome x base ls new) c.in-Made.is c.in_ok-outcome.ensures.outcome in
    let left = next_room (setting base) ls new o.0 (goes_first base ls new o.0 o.1 o.2 c.in_ok-outcome.ensures.safe.sure) in
    let all = few_now c.args.draft.now c.args.reached.now c.args.due.now c.requires.quick in
    let few : length (places_of given) < 2 ^ 32 = omega (arith, all, c.place_count-places.ensures.count, c.place_count-places.type_inv) in
    let fits : c.loop-ends.changes + 1 < 2 ^ 64 = count_fits given ls new c.loop-ends.changes few c.loop-ends.invariant.room left in
    omega arith

pub loop-ends-smaller : goal.loop-ends-smaller
loop-ends-smaller c =
    let base = c.args.widest.now.base in
    let ls = lines_now c.loop-ends.draft in
    let new = lines_now c.first_change.new.draft in
    let o = subst (λ (x : PlaceOutcome). IsOutcome x base ls new) c.in-Made.is c.in_ok-outcome.ensures.outcome in
    let left = next_room (setting base) ls new o.0 (goes_first base ls new o.0 o.1 o.2 c.in_ok-outcome.ensures.safe.sure) in
    let less : room_of new < room_of ls = omega (arith, left) in
    less

pub loop-ends-preserved : goal.loop-ends-preserved
loop-ends-preserved c =
    let base = c.args.widest.now.base in
    let i = c.loop-ends.invariant in
    let ls = lines_now c.loop-ends.draft in
    let new = lines_now c.first_change.new.draft in
    let o = subst (λ (x : PlaceOutcome). IsOutcome x base ls new) c.in-Made.is c.in_ok-outcome.ensures.outcome in
    let next = goes_first base ls new o.0 o.1 o.2 c.in_ok-outcome.ensures.safe.sure in
    let left = next_room (setting base) ls new o.0 next in
    record {
      made = next_made (setting base) (lines_now c.args.draft.now) ls new c.loop-ends.changes o.0 i.made next;
      room = omega (arith, left, i.room);
      safe = c.in_ok-outcome.ensures.safe;
      quick = c.in_ok-outcome.ensures.quick;
      ends = c.in_ok-outcome.ensures.ends;
    }

pub returns-in-Nothing-clause-layable : goal.returns-in-Nothing-clause-layable
returns-in-Nothing-clause-layable c = sure_layable c.args.widest.now.base (lines_now c.first_change.new.draft) c.in_ok-outcome.ensures.safe.sure

pub returns-in-Unsure-clause-layable : goal.returns-in-Unsure-clause-layable
returns-in-Unsure-clause-layable c = sure_layable c.args.widest.now.base (lines_now c.first_change.new.draft) c.in_ok-outcome.ensures.safe.sure

pub returns-in-Unsure-clause-marks : goal.returns-in-Unsure-clause-marks
returns-in-Unsure-clause-marks c = subst (AreMarks (code_of (lines_now c.first_change.new.draft))) (sym c.in_ok-marks-in-Unsure.ensures) c.in_ok-outcome.ensures.quick.reached
